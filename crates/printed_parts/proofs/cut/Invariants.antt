-- `printed_parts::cut`: the digits that are left have the same first ones.
use Rattle.std.proofs.Common.{◌≡◌, ◌+◌, ◌-◌, ◌^◌, ◌<◌, take}
use Rattle.digits.specs.Digits.{digits}
use Rattle.printed_parts.proofs.cut.Given as goal

abbrev pub invariant-loop : goal.invariant-loop
invariant-loop l = record {
  small : l.value < 2 ^ 30;
  first : take l.width (digits 9 l.nanos) ≡ take l.width (digits (l.width + 9 - l.counter) l.value);
}
