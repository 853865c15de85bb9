-- `tai::answer_input`: what waits is so short that a read has room.
use Rattle.std.proofs.Common.{ap, arith, length, length-take}
use Rattle.std.proofs.Math.Seq.{length_front}
use Rattle.lines.proofs.Moves.{moved_count}
use Rattle.lines.proofs.Turns.{left_short}
use Rattle.tai.proofs.input.answer_input.Goals as goal
use Rattle.tai.proofs.input.answer_input.Goals.{then-done-eq0+else-ended+in_ok-came, else-done-eq0}

pub read_behind-requires : goal.read_behind-requires
read_behind-requires g c =
    let moved = c.move_to_front-end in
    let short = left_short c.answer_lines-done.ensures c.if-done-eq0.true (omega arith) in
    rw (length_front c.loop.input moved.new.s c.loop.end moved.auto.s) (omega (arith, moved_count _ _ moved.ensures))

pub loop-preserved : goal.loop-preserved
loop-preserved g c =
    let moved = moved_count _ _ c.move_to_front-end.ensures in
    elim c.if-done-eq0.branch [
      | then-done-eq0+else-ended+in_ok-came w ↦ omega (arith, w.end-is, ap length w.input-is, w.in_ok-came.ensures)
      | else-done-eq0 w ↦ omega (arith, w.end-is, moved, length-take c.loop.end c.loop.input, c.if-done-eq0.auto.input)
    ]
