-- `words::rows::row_fits`: one kind after the other (`fits_more`).
use Rattle.std.proofs.Common.{sym, ◌∙◌}
use Rattle.words.proofs.Places.{fits_end, fits_not, fits_more}
use Rattle.words.proofs.rows.row_fits.Goals as goal

pub returns-then-not-is_good : goal.returns-then-not-is_good
returns-then-not-is_good c = fits_not _ _ _ _ c.loop-kind-test.true (sym c.is_good.ensures ∙ c.if-not-is_good.true) ∙ sym c.loop-kind.invariant

pub loop-kind-preserved : goal.loop-kind-preserved
loop-kind-preserved c =
    c.loop-kind.invariant ∙ rw (c.skip-left.ensures, c.field_length.ensures.value) (fits_more _ _ _ _ c.loop-kind-test.true (sym c.is_good.ensures ∙ c.if-not-is_good.false))

pub returns : goal.returns
returns c = c.ends.ensures ∙ sym (c.loop-kind.invariant ∙ fits_end _ _ _ _ c.loop-kind-test.false)
