-- Document 02, ask 2: a digit comes off a number by a product and a shift, and the digits are the same.
use mathlib.Core.Path.{◌≡◌, refl}
use Prim.Native.Nat.{ℕ, zero, suc, ◌+◌, ◌-◌, ◌*◌, ◌/◌, ◌%◌, ◌^◌, ◌<◌}
use native.Mathlib.Omega.{arith}
use lib.Dec.{eqb, eqb→eq, lit<}
use Rattle.digits.specs.Digits.{digits}
use Rattle.digits.proofs.Product.{split_by_product}
use Rattle.calendar.proofs.Table.{below}
use Rattle.demands.specs.DigitsOff.{shifted, digits_off}

-- The product and the shift are a tenth of every number below 2^30;
pub exact_below_2^30 : (n : ℕ) → n < 2 ^ 30 → shifted n ≡ n / 10
unfolding shifted
exact_below_2^30 n h = (split_by_product 10 429496730 (2 ^ 32) 4 n (lit< tt) (lit< tt) refl (omega arith)).0

-- of those from 2^30 to 1,073,741,828 too, each of which is computed;
pub exact_from_2^30 : (k : ℕ) → k < 5 → shifted (2 ^ 30 + k) ≡ (2 ^ 30 + k) / 10
unfolding shifted
exact_from_2^30 k h = eqb→eq _ _ (below (λ k. eqb (shifted (2 ^ 30 + k)) ((2 ^ 30 + k) / 10)) 5 tt k h)

-- and they are first wrong at 1,073,741,829 (proofs/FirstWrong.antt: at no number before).
pub wrong_at_1073741829 : shifted 1073741829 ≡ 1073741829 / 10 → ⊥
unfolding shifted
wrong_at_1073741829 e = absurd (omega (arith, e))

-- So they suit our numbers: a number below 2^30, as nanoseconds are and both halves of a year's size, has the digits that come off it so.
pub same_digits : (w n : ℕ) → n < 2 ^ 30 → digits_off w n ≡ digits w n
unfolding digits digits_off
same_digits zero n h = refl
same_digits (suc w) n h =
    let e : n - n / 10 * 10 ≡ n % 10 = omega arith in
    rw (exact_below_2^30 n h, e, same_digits w (n / 10) (omega arith))
