-- `digits::put_digits`: what is still to be stored is the digits of what is left of n.
use Rattle.std.proofs.Common.{◌≡◌, ◌+◌, ◌*◌, ◌^◌, ◌<◌}
use Rattle.std.proofs.lemmas.List.Edits.{sets}
use Rattle.digits.specs.Digits.{digits}
use Rattle.digits.proofs.put_digits.Given as goal

abbrev pub invariant-loop-pair : goal.invariant-loop-pair
invariant-loop-pair l = record {
  small : l.m < 2 ^ 30;
  to_come : sets l.fn.s l.at (digits l.width l.n) ≡ sets l.s l.at (digits (l.odd + 2 * l.pair) l.m);
}
