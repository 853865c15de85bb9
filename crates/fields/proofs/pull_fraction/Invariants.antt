-- `fields::pull_fraction`: the nanoseconds are those of nano at place i with the digits from there on.
use Rattle.std.proofs.Common.{◌≡◌, ◌^◌, ◌<◌, drop}
use Rattle.decimals.specs.Numbers.{all_digits}
use Rattle.fields.specs.Fields.{nanoseconds}
use Rattle.fields.proofs.Tenths.{placed}
use Rattle.fields.proofs.pull_fraction.Given as goal

abbrev pub invariant-loop-i : goal.invariant-loop-i
invariant-loop-i l = record {
  in_value : l.nano < 10 ^ l.i;
  digits : all_digits l.digits ≡ all_digits (drop l.i l.digits);
  value : nanoseconds l.digits ≡ placed l.i l.nano l.digits;
}
