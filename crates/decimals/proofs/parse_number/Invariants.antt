-- `decimals::parse_number`: the number is that of the digits from x on, after a value of n.
use Rattle.std.proofs.Common.{◌≡◌, ◌≤◌, drop}
use Rattle.decimals.specs.Numbers.{all_digits, decimal_after, decimal}
use Rattle.decimals.proofs.parse_number.Given as goal

abbrev pub invariant-loop-x : goal.invariant-loop-x
invariant-loop-x l = record {
  in_limit : l.n ≤ l.limit;
  digits : all_digits l.s ≡ all_digits (drop l.x-index l.s);
  value : decimal l.s ≡ decimal_after l.n (drop l.x-index l.s);
}
