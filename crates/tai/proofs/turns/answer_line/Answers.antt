-- `tai::turns::answer_line`: each way out is one of the turns of `lines`.
use Rattle.std.proofs.Common.{arith, take, length-take}
use Rattle.desk.specs.Answers.{answer_text}
use Rattle.lines.proofs.Cuts.{index_le, first_some}
use Rattle.lines.proofs.Turns.{turn_left, turn_passed, turn_answered}
use Rattle.tai.proofs.Wrote.{too_long, wrote, none}
use Rattle.tai.proofs.turns.answer_line.Goals as goal

pub returns-then-within : goal.returns-then-within
returns-then-within c = rw (c.first_line-line.ensures, c.if-within.true) (turn_passed answer_text _ _ _)

pub slice_bounds-answer-end : goal.slice_bounds-answer-end
slice_bounds-answer-end c =
    let some = first_some c.args.ended c.args.s.now c.first_line-line.ensures c.in-Some.is in
    rw length-take (omega (arith, index_le c.args.s.now))

pub returns-then-written-gt0 : goal.returns-then-written-gt0
returns-then-written-gt0 c =
    let some = first_some c.args.ended c.args.s.now c.first_line-line.ensures c.in-Some.is in
    let text = wrote _ _ c.answer-written.ensures c.if-written-gt0.true c.answer-written.auto.out in
    rw (c.first_line-line.ensures, c.if-within.false) (turn_answered answer_text too_long c.args.s.now _ some.0 (rw some.1 at text))

pub returns-else-written-gt0 : goal.returns-else-written-gt0
returns-else-written-gt0 c =
    let some = first_some c.args.ended c.args.s.now c.first_line-line.ensures c.in-Some.is in
    let left = none (take c.in-Some.length c.args.s.now) _ c.answer-written.ensures (λ h. omega arith) in
    let short = rw (length-take, some.1) at left.1 in
    rw (c.if-within.false, left.0) (turn_left answer_text c.args.s.now _ _ _ (λ _ room. omega arith))
