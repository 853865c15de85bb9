-- `words::words::rest_at`. The invariant: so many fields are passed over.
use Rattle.std.proofs.Common.{◌≡◌}
use Rattle.words.specs.Words.{rest_at}
use Rattle.words.proofs.words.rest_at.Given as goal

abbrev pub invariant-loop : goal.invariant-loop
invariant-loop l = l.left ≡ rest_at l.counter l.s
