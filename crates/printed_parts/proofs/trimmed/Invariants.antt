-- `printed_parts::trimmed`: what is left is trimmed to the same digits.
use Rattle.std.proofs.Common.{◌≡◌, ◌^◌, ◌≤◌, ◌<◌}
use Rattle.digits.specs.Digits.{digits}
use Rattle.printed_parts.specs.Text.{trim}
use Rattle.printed_parts.proofs.trimmed.Given as goal

abbrev pub invariant-loop-before : goal.invariant-loop-before
invariant-loop-before l = record {
  nine : l.before ≤ 9;
  small : l.value < 2 ^ 30;
  trimmed : trim (digits 9 l.nanos) ≡ trim (digits l.before l.value);
}
