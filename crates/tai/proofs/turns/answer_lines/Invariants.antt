-- `tai::turns::answer_lines`: one turn after another; while nothing is used, nothing is written.
use Rattle.std.proofs.Common.{◌≡◌, ◌-◌, length}
use Rattle.desk.specs.Answers.{answer_text}
use Rattle.lines.specs.Lines.{Done}
use Rattle.tai.proofs.turns.answer_lines.Given as goal

abbrev pub invariant-loop-used : goal.invariant-loop-used
invariant-loop-used l = record {
  done : Done answer_text l.s l.fn.within l.ended l.fn.out l.out (record { used = l.used; written = l.written; within = l.within });
  long : length l.out ≡ length l.fn.out;
  none : l.used ≡ 0 → l.written ≡ 0;
}

abbrev pub decreases-loop-used : goal.decreases-loop-used
decreases-loop-used l = length l.s - l.used
