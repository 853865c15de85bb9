-- `stages::usual::is_usual`: the text fits from the front as it fits from i on.
use Rattle.std.proofs.Common.{◌≡◌, true, ◌∙◌, arith, ne_eqb, eq-eqb}
use Rattle.std.proofs.lemmas.Bool.{false_from_ne_true}
use Rattle.fields.specs.Fields.{is_delimiter}
use Rattle.stages.specs.Usual.{usual_shape, fits, is_usual}
use Rattle.stages.proofs.Shape.{fits_step, fits_long}
use Rattle.stages.proofs.usual.is_usual.Goals as goal

pub returns-then-text-lt19 : goal.returns-then-text-lt19
unfolding is_usual usual_shape
returns-then-text-lt19 c =
    let s = c.args.text.now in
    rw (false_from_ne_true (fits usual_shape s) (λ e. omega (arith, fits_long usual_shape s e)))

pub returns-then-not-fits_place : goal.returns-then-not-fits_place
unfolding is_usual
returns-then-not-fits_place c =
    rw (c.loop-i.invariant ∙ fits_step _ c.loop-i.i (omega arith) (omega arith), ← c.fits_place.ensures, c.if-not-fits_place.true)

pub loop-i-preserved : goal.loop-i-preserved
loop-i-preserved c = c.loop-i.invariant ∙ fits_step _ c.loop-i.i (omega arith) (omega arith) ∙ rw (← c.fits_place.ensures, c.if-not-fits_place.false)

pub returns-then-text-eq19 : goal.returns-then-text-eq19
unfolding is_usual usual_shape fits
returns-then-text-eq19 c =
    let z : c.loop-i.i ≡ 19 = omega arith in
    let whole : fits usual_shape c.args.text.now ≡ true = c.loop-i.invariant ∙ rw z in
    rw (whole, eq-eqb _ 19 c.if-text-eq19.true)

pub returns-else-text-eq19 : goal.returns-else-text-eq19
unfolding is_usual usual_shape fits is_delimiter
returns-else-text-eq19 c =
    let z : c.loop-i.i ≡ 19 = omega arith in
    let whole : fits usual_shape c.args.text.now ≡ true = c.loop-i.invariant ∙ rw z in
    rw (whole, ne_eqb _ 19 c.if-text-eq19.false)
