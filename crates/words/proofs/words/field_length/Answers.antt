-- `words::words::field_length`: a blank and the word behind it, or nothing (`field_blank`, `field_none`).
use Rattle.std.proofs.Common.{sym, ap, ◌∙◌, length, length-drop, arith}
use Rattle.words.proofs.Splits.{field_blank, field_none, blank_length}
use Rattle.words.proofs.words.field_length.Goals as goal

pub returns-then-begins_with-clause-value : goal.returns-then-begins_with-clause-value
returns-then-begins_with-clause-value c = rw (c.word_length.ensures.value, c.skip.ensures) (field_blank _ (sym c.begins_with.ensures ∙ c.if-begins_with.true))

pub returns-then-begins_with-clause-within : goal.returns-then-begins_with-clause-within
returns-then-begins_with-clause-within c =
    let k = simp length-drop at (ap length c.skip.ensures) in
    omega (arith, k, blank_length _ (sym c.begins_with.ensures ∙ c.if-begins_with.true), c.word_length.ensures.within)

pub returns-clause-value : goal.returns-clause-value
returns-clause-value c = field_none _ (sym c.begins_with.ensures ∙ c.if-begins_with.false)
