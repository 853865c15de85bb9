-- The end of a row of digits: zeros left out, or digits cut off.
use mathlib.Core.Path.{◌≡◌, refl, sym, ap, ◌∙◌}
use mathlib.Core.List.{List, [], ◌∷◌, ◌++◌}
use Prim.Native.Nat.{ℕ, zero, suc, ◌+◌, ◌-◌, ◌*◌, ◌/◌, ◌%◌, ◌^◌, ◌<◌, ◌≤◌, min}
use native.Mathlib.Nat.{pow-suc, pow-zero, add-suc, add-zero, mul-one, mul_assoc}
use native.Mathlib.Numerals.{sub-one}
use native.Mathlib.Omega.{arith}
use lib.Dec.{ltb}
use lib.ListN.{length, take, length-append}
use Rattle.std.proofs.lemmas.List.{take_min}
use lib.Seq.{take-append-le, take_all}
use borrow.Author.Tests.{ne_eqb, lt-ltb}
use Rattle.std.specs.Bool.{then_some}
use Rattle.std.specs.List.{cons_option}
use Rattle.digits.specs.Digits.{digits}
use Rattle.digits.proofs.Decimal.{digits_length}
use Rattle.printed_parts.specs.Text.{point, unless_last, trim, pointed}

trim_zero : (a : List ℕ) → trim (a ++ (48 ∷ [])) ≡ trim a
unfolding trim
trim_zero [] = refl
trim_zero (x ∷ a) = ap (unless_last x) (trim_zero a)

trim_digit : (a : List ℕ) (x : ℕ) → (x ≡ 48 → ⊥) → trim (a ++ (x ∷ [])) ≡ a ++ (x ∷ [])
unfolding trim
trim_digit [] x h = rw (ne_eqb x 48 h)
trim_digit (y ∷ a) x h = rw (trim_digit a x h) (go (a ++ (x ∷ [])) (omega (arith, length-append a (x ∷ []))))
  where
    go : (s : List ℕ) → 0 < length s → unless_last y s ≡ y ∷ s
    go [] k = absurd (omega arith)
    go (z ∷ s) k = refl

pub trim_down : (w n : ℕ) → 0 < w → n % 10 ≡ 0 → trim (digits w n) ≡ trim (digits (w - 1) (n / 10))
unfolding digits
trim_down zero n h e = absurd (omega arith)
trim_down (suc w) n h e = rw (sub-one, e) (trim_zero (digits w (n / 10)))

-- k zeros at the end may go at once
pub trim_zeros : (k w n : ℕ) → trim (digits (w + k) (n * 10 ^ k)) ≡ trim (digits w n)
trim_zeros zero w n = rw (add-zero, pow-zero, mul-one)
trim_zeros (suc k) w n =
    let x = n * 10 ^ k in
    let e : n * 10 ^ suc k ≡ x * 10 = rw pow-suc (sym (mul_assoc n (10 ^ k) 10)) in
    let d : x * 10 / 10 ≡ x = omega arith in
    rw (e, add-suc) (trim_down (suc (w + k)) (x * 10) (omega arith) (omega arith) ∙ rw (sub-one, d) (trim_zeros k w n))

pub trim_stop : (w n : ℕ) → (0 < w → n % 10 ≡ 0 → ⊥) → trim (digits w n) ≡ digits w n
unfolding digits trim
trim_stop zero n h = refl
trim_stop (suc w) n h = trim_digit (digits w (n / 10)) (48 + n % 10) (λ q. h (omega arith) (omega arith))

pub take_down : (k w n : ℕ) → k < w → take k (digits w n) ≡ take k (digits (w - 1) (n / 10))
unfolding digits
take_down k zero n h = absurd (omega arith)
take_down k (suc w) n h = rw sub-one (take-append-le k (digits w (n / 10)) _ (rw digits_length (omega arith)))

pub take_nine : (k n : ℕ) → take (min k 9) (digits 9 n) ≡ take k (digits 9 n)
take_nine k n = let e = take_min k (digits 9 n) in rw (digits_length 9 n) at e

pub take_stop : (k w n : ℕ) → w ≤ k → take k (digits w n) ≡ digits w n
take_stop k w n h = take_all k (digits w n) (rw digits_length h)

-- digits stand behind a point if there are any
pub point_first : (w n : ℕ) → cons_option (then_some (ltb 0 w) point) (digits w n) ≡ pointed (digits w n)
unfolding digits
point_first zero n = refl
point_first (suc w) n = rw (lt-ltb 0 (suc w) (omega arith)) (go (digits (suc w) n) (omega (arith, digits_length (suc w) n)))
  where
    go : (s : List ℕ) → 0 < length s → point ∷ s ≡ pointed s
    go [] h = absurd (omega arith)
    go (x ∷ s) h = refl
