-- `tai::turns::answer_lines`: one turn after another.
use Rattle.std.proofs.Common.{refl, arith}
use Rattle.lines.proofs.Cuts.{ready_some}
use Rattle.lines.proofs.Turns.{done_nothing, done_again, long_again, turn_again}
use Rattle.tai.proofs.turns.answer_lines.Goals as goal

pub loop-used-init : goal.loop-used-init
loop-used-init c = record { done = done_nothing _ _ _ _ _; long = refl; none = λ e. e }

pub slice_bounds-answer_line-count-in-loop-used : goal.slice_bounds-answer_line-count-in-loop-used
slice_bounds-answer_line-count-in-loop-used c = omega (arith, c.loop-used.invariant.done.written_fits, c.loop-used.invariant.long)

pub slice_bounds-answer_line-start-in-loop-used : goal.slice_bounds-answer_line-start-in-loop-used
slice_bounds-answer_line-start-in-loop-used c = omega (arith, c.loop-used.invariant.done.written_fits, c.loop-used.invariant.long)

pub loop-used-preserved : goal.loop-used-preserved
loop-used-preserved c =
    let i = c.loop-used.invariant in
    let turn = c.answer_line-line in
    record { done = done_again i.done i.long turn.ensures; long = long_again i.done i.long turn.ensures turn.auto.out; none = λ e. absurd (omega arith) }

pub returns-after-loop-used : goal.returns-after-loop-used
returns-after-loop-used c = record { done = c.loop-used.invariant.done; progress = λ e _. omega (arith, ready_some _ _ e) }

pub returns-then-line-eq0 : goal.returns-then-line-eq0
returns-then-line-eq0 c = turn_again c.loop-used.invariant.done c.loop-used.invariant.long c.answer_line-line.ensures c.loop-used.invariant.none
