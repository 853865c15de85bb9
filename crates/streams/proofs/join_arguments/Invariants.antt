-- `streams::join_arguments`: each argument lies within the request.
use Rattle.std.proofs.Common.{◌≤◌, length}
use Rattle.streams.proofs.join_arguments.Given as goal

abbrev pub invariant-loop-i : goal.invariant-loop-i
invariant-loop-i g l = l.at ≤ length l.request
