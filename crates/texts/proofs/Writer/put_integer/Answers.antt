-- `texts::Writer::put_integer`: the number is its size, behind its sign (`integer_above`, `integer_below`).
use Rattle.std.proofs.Common.{w64, to_z-of_z, sym, ◌∙◌}
use Rattle.texts.proofs.Puts.{integer_above, integer_below}
use Rattle.texts.proofs.Wrotes.{wrote_on}
use Rattle.texts.proofs.Writer.put_integer.Goals as goal
use Rattle.texts.proofs.Writer.put_integer.Goals.{then-is_negative, else-is_negative}

pub returns-clause-wrote : goal.returns-clause-wrote
returns-clause-wrote c =
    let e = to_z-of_z {w = w64} c.ranges.n in
    let size = rw (c.unsigned_abs.ensures.value, e) at c.put_natural.ensures.wrote in
    elim c.if-is_negative.branch [
      | then-is_negative w ↦ rw (integer_below _ (rw e at (sym c.is_negative.ensures ∙ w.if-is_negative.true))) (wrote_on w.put_byte.ensures (rw w.self-is at size))
      | else-is_negative w ↦ rw (integer_above _ (rw e at (sym c.is_negative.ensures ∙ w.if-is_negative.false))) (rw w.self-is at size)
    ]
