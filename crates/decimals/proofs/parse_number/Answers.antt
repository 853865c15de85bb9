-- `decimals::parse_number`: a digit too many is seen as soon as the value with it passes the limit.
use Rattle.std.proofs.Common.{◌≡◌, ◌+◌, ◌-◌, ◌*◌, ◌<◌, ℕ, List, length, sym, ap, ◌∙◌, get_or, drop, arith, Some, None, rules}
use Rattle.decimals.specs.Numbers.{decimal, decimal_after, number}
use Rattle.decimals.proofs.Values.{decimal_grows, digits_end, decimal_end, digits_bad, digits_more, decimal_more, no_digit, bad_digit, too_large, good_digits}
use Rattle.decimals.proofs.parse_number.Goals as goal

-- a digit with which the value passes the limit
past : (limit n : ℕ) (s : List ℕ) (i : ℕ) → i < length s → decimal s ≡ decimal_after n (drop i s) → limit < n * 10 + (get_or s i 0 - 48) → None ≡ number limit s
past limit n s i h e k =
    let m = decimal_more s i h n in
    let g = decimal_grows (n * 10 + (get_or s i 0 - 48)) (drop (i + 1) s) in
    too_large _ _ (omega arith)

pub returns-then-is_empty : goal.returns-then-is_empty
returns-then-is_empty c = no_digit _ _ (search rules)

pub returns-then-not-is_digit : goal.returns-then-not-is_digit
returns-then-not-is_digit c =
    let l = c.loop-x in
    bad_digit _ _ (l.invariant.digits ∙ digits_bad c.args.s.now l.x-index c.loop-x-test.true cc)

pub returns-then-limit-n : goal.returns-then-limit-n
returns-then-limit-n c = let l = c.loop-x in past _ l.n _ l.x-index c.loop-x-test.true l.invariant.value (omega arith)

pub returns-then-limit-n-2 : goal.returns-then-limit-n-2
returns-then-limit-n-2 c = let l = c.loop-x in past _ l.n _ l.x-index c.loop-x-test.true l.invariant.value (omega arith)

pub loop-x-preserved : goal.loop-x-preserved
loop-x-preserved c =
    let l = c.loop-x in
    let s = c.args.s.now in
    record {
      in_limit = omega arith;
      digits = l.invariant.digits ∙ digits_more s l.x-index c.loop-x-test.true cc;
      value = l.invariant.value ∙ rw c.from-digit.ensures (decimal_more s l.x-index c.loop-x-test.true l.n);
    }

pub returns : goal.returns
returns c =
    let l = c.loop-x in
    let s = c.args.s.now in
    let e : decimal s ≡ l.n = l.invariant.value ∙ decimal_end s l.x-index l.n (omega arith) in
    ap Some (sym e) ∙ good_digits _ _ (search rules) (l.invariant.digits ∙ digits_end s l.x-index (omega arith)) (omega arith)
