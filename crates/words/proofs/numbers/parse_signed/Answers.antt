-- `words::numbers::parse_signed`: the value is read off the machine's bits.
use Rattle.std.proofs.Common.{◌≡◌, ◌-◌, ◌^◌, ◌<◌, pos, negsuc, ◌-ℤ◌, w64, to_z, of_z, SFits, Some, sym, ap, ◌∙◌, arith, rules}
use Rattle.integers.proofs.Machine.{signed as lawsOfSigned, known}
use Rattle.words.specs.Numbers.{signed}
use Rattle.words.proofs.Decimal.{unsigned_small, below_value}
use Rattle.words.proofs.numbers.parse_signed.Goals as goal

pub returns-in_err-size : goal.returns-in_err-size
unfolding signed
returns-in_err-size c = c.from_residual.ensures ∙ rw (← c.begins_with.ensures, c.if-begins_with.true, ← c.skip.ensures, ← c.parse_unsigned.ensures, c.in_err-size.was)

pub returns-then-size-eq0 : goal.returns-then-size-eq0
unfolding signed
returns-then-size-eq0 c = rw (← c.begins_with.ensures, c.if-begins_with.true, ← c.skip.ensures, ← c.parse_unsigned.ensures, c.in_ok-size.was, c.if-size-eq0.true)

pub overflow_cast-result : goal.overflow_cast-result
overflow_cast-result c =
    let h = unsigned_small _ _ (sym c.parse_unsigned.ensures ∙ c.in_ok-size.was) in
    let k : c.in_ok-size.size - 1 < 2 ^ 63 = omega arith in
    search rules

pub returns-then-begins_with : goal.returns-then-begins_with
unfolding signed
returns-then-begins_with c =
    let n = c.in_ok-size.size in
    let h = unsigned_small _ _ (sym c.parse_unsigned.ensures ∙ c.in_ok-size.was) in
    let k : n - 1 < 2 ^ 63 = omega arith in
    let f : SFits w64 (pos (n - 1)) = search rules in
    let g : SFits w64 (negsuc 0 -ℤ to_z w64 (n - 1)) = omega (arith, lawsOfSigned, known f) in
    let e : to_z w64 (of_z w64 (negsuc 0 -ℤ to_z w64 (n - 1))) ≡ negsuc (n - 1) = omega (arith, lawsOfSigned, known f, known g) in
    ap Some e ∙ rw (← c.begins_with.ensures, c.if-begins_with.true, ← c.skip.ensures, ← c.parse_unsigned.ensures, c.in_ok-size.was) (sym (below_value n (omega arith)))

pub returns-in_err-size-2 : goal.returns-in_err-size-2
unfolding signed
returns-in_err-size-2 c = c.from_residual-in_err-size-2.ensures ∙ rw (← c.begins_with.ensures, c.if-begins_with.false, ← c.parse_unsigned-2.ensures, c.in_err-size-2.was)

pub overflow_cast-result-2 : goal.overflow_cast-result-2
overflow_cast-result-2 c =
    let h = unsigned_small _ _ (sym c.parse_unsigned-2.ensures ∙ c.in_ok-size-2.was) in
    let k : c.in_ok-size-2.size < 2 ^ 63 = omega arith in
    search rules

pub returns : goal.returns
unfolding signed
returns c =
    let n = c.in_ok-size-2.size in
    let h = unsigned_small _ _ (sym c.parse_unsigned-2.ensures ∙ c.in_ok-size-2.was) in
    let k : n < 2 ^ 63 = omega arith in
    let f : SFits w64 (pos n) = search rules in
    let e : to_z w64 n ≡ pos n = omega (arith, lawsOfSigned, known f) in
    ap Some e ∙ rw (← c.begins_with.ensures, c.if-begins_with.false, ← c.parse_unsigned-2.ensures, c.in_ok-size-2.was)
