-- `tai::answer_input`: the bytes that wait are within the input.
use Rattle.std.proofs.Common.{◌≤◌, length}
use Rattle.tai.proofs.input.answer_input.Given as goal

abbrev pub invariant-loop : goal.invariant-loop
invariant-loop g l = l.end ≤ length l.input
