-- `digits::put_digits`: a turn stores the last two digits of what is left (`last_run_first`), and the end at most one.
use Rattle.std.proofs.Common.{◌≡◌, ◌+◌, ◌-◌, ◌*◌, ◌%◌, sym, ◌∙◌, arith}
use Rattle.digits.specs.Digits.{digits}
use Rattle.digits.proofs.Decimal.{last_run_first}
use Rattle.digits.proofs.put_digits.Goals as goal

pub loop-pair-preserved : goal.loop-pair-preserved
loop-pair-preserved c =
    let v = c.loop-pair.invariant in
    let e = c.split_last-split.ensures in
    let odd = c.args.width % 2 in
    let left = odd + 2 * c.loop-pair.pair in
    let w : left - 2 ≡ odd + 2 * (c.loop-pair.pair - 1) = omega arith in
    let a : c.args.at + (odd + 2 * (c.loop-pair.pair - 1)) ≡ c.args.at + odd + 2 * (c.loop-pair.pair - 1) = omega arith in
    record { small = omega arith; to_come = v.to_come ∙ last_run_first 2 _ _ left _ (omega arith) ∙ rw (w, a, c.put_pair.ensures, e.0, e.1) }

pub returns-then-odd-eq1 : goal.returns-then-odd-eq1
unfolding digits
returns-then-odd-eq1 c =
    let o : c.args.width % 2 + 2 * c.loop-pair.pair ≡ 1 = omega arith in
    sym (c.loop-pair.invariant.to_come ∙ rw (o, c.split_last_digit.ensures.1))

pub returns-else-odd-eq1 : goal.returns-else-odd-eq1
unfolding digits
returns-else-odd-eq1 c =
    let z : c.args.width % 2 + 2 * c.loop-pair.pair ≡ 0 = omega arith in
    sym (c.loop-pair.invariant.to_come ∙ rw z)
