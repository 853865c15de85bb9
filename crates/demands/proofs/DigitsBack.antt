-- Printed digits are digits, and read as the number that was printed.
use mathlib.Core.Path.{◌≡◌, refl, ◌∙◌}
use mathlib.Core.Bool.{true, false, and-eq-true_iff}
use mathlib.Core.List.{List, [], ◌∷◌, ◌++◌}
use Prim.Native.Nat.{ℕ, zero, suc, ◌+◌, ◌-◌, ◌*◌, ◌/◌, ◌%◌, ◌^◌, ◌<◌, ◌≤◌}
use native.Mathlib.Nat.{pow-suc}
use native.Mathlib.Omega.{arith}
use lib.Dec.{leb}
use lib.ListN.{length}
use borrow.Author.Tests.{le-leb, lt-ltb, ne_eqb, leb-true}
use Rattle.decimals.specs.Numbers.{begins_with, is_digit, all_digits, decimal_after, decimal, number}
use Rattle.std.specs.Prelude.{Some}
use Rattle.digits.specs.Digits.{digits}
use Rattle.digits.proofs.Decimal.{digits_length}

decimal_append : (n : ℕ) (a b : List ℕ) → decimal_after n (a ++ b) ≡ decimal_after (decimal_after n a) b
unfolding decimal_after
decimal_append n [] b = refl
decimal_append n (x ∷ a) b = decimal_append (n * 10 + (x - 48)) a b

pub decimal_digits : (w n : ℕ) → n < 10 ^ w → decimal (digits w n) ≡ n
unfolding decimal_after digits
decimal_digits zero n h = omega arith
decimal_digits (suc w) n h =
    let p : n < 10 ^ w * 10 = rw pow-suc at h in
    decimal_append 0 (digits w (n / 10)) _ ∙ rw (decimal_digits w (n / 10) (omega arith)) (omega arith)

is_digit_lem : (x : ℕ) → 48 ≤ x → x ≤ 57 → is_digit x ≡ true
unfolding is_digit
is_digit_lem x h k = rw (le-leb 48 x h, le-leb x 57 k)

digits_append : (a b : List ℕ) → all_digits a ≡ true → all_digits (a ++ b) ≡ all_digits b
unfolding all_digits
digits_append [] b h = refl
digits_append (x ∷ a) b h = let k = (and-eq-true_iff (is_digit x) (all_digits a)).0 h in rw k.0 (digits_append a b k.1)

pub all_digits_lem : (w n : ℕ) → all_digits (digits w n) ≡ true
unfolding all_digits digits
all_digits_lem zero n = refl
all_digits_lem (suc w) n = digits_append (digits w (n / 10)) _ (all_digits_lem w (n / 10)) ∙ rw (is_digit_lem (48 + n % 10) (omega arith) (omega arith))

-- ---- a digit is no sign and no delimiter
pub digit_low : (x : ℕ) → is_digit x ≡ true → 48 ≤ x
unfolding is_digit
digit_low x h = leb-true 48 x ((and-eq-true_iff (leb 48 x) (leb x 57)).0 h).0

pub digit_high : (x : ℕ) → is_digit x ≡ true → x ≤ 57
unfolding is_digit
digit_high x h = leb-true x 57 ((and-eq-true_iff (leb 48 x) (leb x 57)).0 h).1

-- digits begin with no byte below 48, whatever follows them
pub begins_not : (b : ℕ) (a r : List ℕ) → b < 48 → 0 < length a → all_digits a ≡ true → begins_with b (a ++ r) ≡ false
unfolding begins_with all_digits
begins_not b [] r l h e = absurd (omega arith)
begins_not b (x ∷ a) r l h e = ne_eqb x b (λ q. omega (arith, digit_low x ((and-eq-true_iff (is_digit x) (all_digits a)).0 e).0))

-- THE NUMBER READS BACK
pub number_digits : (limit w n : ℕ) → 0 < w → n < 10 ^ w → n ≤ limit → number limit (digits w n) ≡ Some n
unfolding number
number_digits limit w n l h k =
    let s = digits w n in
    let p : 0 < length s = omega (arith, digits_length w n) in
    let d = all_digits_lem w n in
    let v = decimal_digits w n h in
    rw (lt-ltb 0 (length s) p, d, v, le-leb n limit k)
