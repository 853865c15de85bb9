-- How many leap years there are: the closed count steps by one over a leap year, and by none over a common one.
use mathlib.Core.Path.{◌≡◌, refl, sym, ap, subst, ◌∙◌}
use mathlib.Core.Bool.{Bool, true, false, not, ◌&&◌, ◌||◌}
use Prim.Native.Nat.{ℕ, zero, suc, ◌+◌, ◌*◌, ◌-◌, ◌/◌, ◌%◌, ◌^◌, ◌≤◌, ◌<◌}
use native.Mathlib.Decide.{dec_lt}
use native.Mathlib.Nat.{div-add-mod', mod-lt, mod-le, add-mul, one-mul}
use native.Mathlib.Omega.{arith}
use lib.Dec.{eqb}
use lib.Signed.{rem_z}
use lib.IntN.{ℤ, pos, negsuc, neg_ℤ, nat_abs, suc_ℤ, ◌+ℤ◌, ◌-ℤ◌, ◌*ℤ◌}
use mir.Facts.{to_z-of_z}
use mir.Syntax.{w64}
use mir.Val.{SFits, of_z, to_z}
use borrow.Author.Tests.{eqb-true, eqb-false, eq-eqb, ne_eqb}
use Rattle.integers.specs.Integers.{Floor, floor_div, floor_mod}
use Rattle.integers.proofs.Signed.{minus, eq_z, add_law, diff_law, suc_law}
use Rattle.integers.proofs.Machine.{known}
use Rattle.integers.proofs.Floor.{floor_law, floor_one, floor_add, splits, to_floor}
use Rattle.calendar.specs.Walk.{divides, is_leap}
use Rattle.calendar.specs.Closed.{leap_years}

-- 1 where the divisor divides
abbrev pub bit : Bool → ℕ
bit true = 1
bit false = 0

-- ---- k divides y where nothing is left of y, rounded down
mod_next : (k n : ℕ) → 0 < k → suc (n % k) ≡ k → suc n % k ≡ 0
unfolding floor_mod
mod_next k n h e =
    (floor_one (floor_law k (pos (suc n)) h) (to_floor {q = pos (n / k + 1)} {r = 0} (omega (arith, div-add-mod' n k, add-mul (n / k) 1 k, one-mul k)) h)).1

mod_more : (k n : ℕ) → suc (n % k) < k → suc n % k ≡ suc (n % k)
unfolding floor_mod
mod_more k n h =
    (floor_one (floor_law k (pos (suc n)) (omega arith)) (to_floor {q = pos (n / k)} {r = suc (n % k)} (omega (arith, div-add-mod' n k)) h)).1

divides_rest : (k : ℕ) (y : ℤ) → 0 < k → divides k y ≡ eqb (floor_mod k y) 0
unfolding divides floor_mod
divides_rest k (pos n) h = refl
divides_rest k (negsuc n) h = go (dec_lt (suc (n % k)) k)
  where
    go : Dec (suc (n % k) < k) → eqb (suc n % k) 0 ≡ eqb (k - suc (n % k)) 0
    go (yes l) = ne_eqb (suc n % k) 0 (λ e. omega (arith, mod_more k n l)) ∙ sym (ne_eqb (k - suc (n % k)) 0 (λ e. omega arith))
    go (no l) = eq-eqb (suc n % k) 0 (mod_next k n h (omega (arith, mod-lt n h))) ∙ sym (eq-eqb (k - suc (n % k)) 0 (omega arith))

-- ---- the quotient of y + k - 1 steps by one over a year that k divides, and by none over another
module _ (k : ℕ) (y : ℤ) (h : 0 < k) where
  here : Floor k y (floor_div k y) (floor_mod k y)
  here = floor_law k y h

  -- whatever has these parts has this quotient
  quotient : {n q : ℤ} {r : ℕ} (m : ℤ) → Floor k n q r → n ≡ m → floor_div k m ≡ q
  quotient {q = q} {r = r} m f e = (floor_one (floor_law k m h) (subst (λ n. Floor k n q r) e f)).0

  after : floor_div k (suc_ℤ y +ℤ pos (k - 1)) ≡ floor_div k y +ℤ pos 1
  after = quotient _ (floor_add (pos 1) here) (eq_z _ _ (omega (arith, add_law y (pos 1 *ℤ pos k), one-mul k, suc_law y, add_law (suc_ℤ y) (pos (k - 1)))))

  before_divided : floor_mod k y ≡ 0 → floor_div k (y +ℤ pos (k - 1)) ≡ floor_div k y
  before_divided e = quotient _ (to_floor {r = k - 1} (omega (arith, splits here, add_law y (pos (k - 1)))) (omega arith)) refl

  before_other : 0 < floor_mod k y → floor_div k (y +ℤ pos (k - 1)) ≡ floor_div k y +ℤ pos 1
  before_other l =
      let f : Floor k (y -ℤ pos 1) (floor_div k y) (floor_mod k y - 1) = to_floor (omega (arith, splits here, diff_law y (pos 1))) (omega (arith, here.small)) in
      quotient _ (floor_add (pos 1) f) (eq_z _ _ (omega (arith, add_law (y -ℤ pos 1) (pos 1 *ℤ pos k), one-mul k, diff_law y (pos 1), add_law y (pos (k - 1)))))

  tick : floor_div k (suc_ℤ y +ℤ pos (k - 1)) ≡ floor_div k (y +ℤ pos (k - 1)) +ℤ pos (bit (divides k y))
  tick = go (divides k y) refl
    where
      go : (b : Bool) → divides k y ≡ b → floor_div k (suc_ℤ y +ℤ pos (k - 1)) ≡ floor_div k (y +ℤ pos (k - 1)) +ℤ pos (bit b)
      go true e = after ∙ ap (λ z. z +ℤ pos 1) (sym (before_divided (eqb-true _ _ (sym (divides_rest k y h) ∙ e))))
      go false e = after ∙ sym (before_other (positive (eqb-false _ _ (sym (divides_rest k y h) ∙ e)))) ∙ eq_z _ _ (omega (arith, add_law (floor_div k (y +ℤ pos (k - 1))) (pos 0)))
        where
          positive : {n : ℕ} → (n ≡ 0 → ⊥) → 0 < n
          positive f = omega arith

-- ---- 400 divides only what 100 divides, and 100 only what 4 divides
leap_ticks : (y : ℤ) → bit (is_leap y) + bit (divides 100 y) ≡ bit (divides 4 y) + bit (divides 400 y)
unfolding is_leap divides
leap_ticks y = go (eqb (n % 4) 0) (eqb (n % 100) 0) (eqb (n % 400) 0) refl refl refl
  where
    n : ℕ
    n = nat_abs y

    go : (a b c : Bool) → eqb (nat_abs y % 4) 0 ≡ a → eqb (nat_abs y % 100) 0 ≡ b → eqb (nat_abs y % 400) 0 ≡ c → bit (a && (not b || c)) + bit b ≡ bit a + bit c
    go true true true p q r = refl
    go true true false p q r = refl
    go true false true p q r = absurd (eqb-false (n % 100) 0 q (omega (arith, eqb-true (n % 400) 0 r)))
    go true false false p q r = refl
    go false true true p q r = refl
    go false true false p q r = absurd (eqb-false (n % 4) 0 p (omega (arith, eqb-true (n % 100) 0 q)))
    go false false true p q r = absurd (eqb-false (n % 100) 0 q (omega (arith, eqb-true (n % 400) 0 r)))
    go false false false p q r = refl

-- THE COUNT OF LEAP YEARS STEPS BY THE LEAP RULE
pub leap_years_suc : (y : ℤ) → leap_years (suc_ℤ y) ≡ leap_years y +ℤ pos (bit (is_leap y))
unfolding leap_years
leap_years_suc y =
    rw (tick 4 y (omega arith), tick 100 y (omega arith), tick 400 y (omega arith)) (together (floor_div 4 (y +ℤ pos 3)) (floor_div 100 (y +ℤ pos 99)) (floor_div 400 (y +ℤ pos 399)) _ _ _ _ (leap_ticks y))
  where
    together : (a b c : ℤ) (p q r l : ℕ) → l + q ≡ p + r → a +ℤ pos p -ℤ (b +ℤ pos q) +ℤ (c +ℤ pos r) ≡ a -ℤ b +ℤ c +ℤ pos l
    together a b c p q r l e =
        eq_z _ _
        (omega (arith, add_law a (pos p), add_law b (pos q), add_law c (pos r), diff_law (a +ℤ pos p) (b +ℤ pos q), add_law (a +ℤ pos p -ℤ (b +ℤ pos q)) (c +ℤ pos r), diff_law a b, add_law (a -ℤ b) c, add_law (a -ℤ b +ℤ c) (pos l)))

-- ---- the machine's test of a remainder sees no sign
neg_bits : (m : ℕ) → m ≤ 2 ^ 63 → eqb (of_z w64 (neg_ℤ (pos m))) 0 ≡ eqb m 0
neg_bits zero h = refl
neg_bits (suc m) h = ne_eqb (2 ^ 64 - suc m) 0 (omega arith) ∙ sym (ne_eqb (suc m) 0 (omega arith))

rem_bits : (k : ℕ) (y : ℤ) → minus y ≤ 2 ^ 63 → eqb (of_z w64 (rem_z y (pos k))) 0 ≡ divides k y
unfolding divides
rem_bits k (pos n) h = refl
rem_bits k (negsuc n) h = neg_bits (suc n % k) (omega (arith, mod-le (suc n) k))

pub rem_test : {y : ℤ} (k : ℕ) → SFits w64 y → eqb (of_z w64 (rem_z (to_z w64 (of_z w64 y)) (pos k))) 0 ≡ divides k y
rem_test {y} k f = ap (λ z. eqb (of_z w64 (rem_z z (pos k))) 0) (to_z-of_z {w = w64} f) ∙ rem_bits k y (known f).low

-- ---- the leap rule by one remainder more: of a century 16 divides what 400 does
fourth : (n t : ℕ) → t < 4 → n ≡ n / 400 * 400 + t * 100 → n % 16 ≡ 0 → t ≡ 0
fourth n zero h e k = refl
fourth n (suc zero) h e k = absurd (omega arith)
fourth n (suc (suc zero)) h e k = absurd (omega arith)
fourth n (suc (suc (suc zero))) h e k = absurd (omega arith)
fourth n (suc (suc (suc (suc t)))) h e k = absurd (omega arith)

pub leap_century : (y : ℤ) → divides 100 y ≡ true → divides 16 y ≡ is_leap y
unfolding is_leap divides
leap_century y h =
    let n = nat_abs y in
    let m = eqb-true (n % 100) 0 h in
    rw h (go n m (eqb (n % 4) 0) (eqb (n % 400) 0) (eqb (n % 16) 0) refl refl refl)
  where
    go : (n : ℕ) → n % 100 ≡ 0 → (a c s : Bool) → eqb (n % 4) 0 ≡ a → eqb (n % 400) 0 ≡ c → eqb (n % 16) 0 ≡ s → s ≡ (a && c)
    go n m true true true p q r = refl
    go n m true true false p q r = absurd (eqb-false (n % 16) 0 r (omega (arith, eqb-true (n % 400) 0 q)))
    go n m true false true p q r = absurd (eqb-false (n % 400) 0 q (omega (arith, fourth n (n / 100 % 4) (omega arith) (omega arith) (eqb-true (n % 16) 0 r))))
    go n m true false false p q r = refl
    go n m false c s p q r = absurd (eqb-false (n % 4) 0 p (omega arith))

pub leap_other : (y : ℤ) → divides 100 y ≡ false → divides 4 y ≡ is_leap y
unfolding is_leap
leap_other y h = rw h (same (divides 4 y))
  where
    same : (a : Bool) → a ≡ (a && true)
    same true = refl
    same false = refl
