-- What a checked result is, from facts that `omega` proves.
use Rattle.std.proofs.Common.{◌≡◌, ℕ, ◌+◌, ◌-◌, ◌*◌, ◌/◌, ◌^◌, ◌<◌, ◌≤◌, suc, max, Bool, true, false, cond, ltb, leb, ◌↔◌, ℤ, pos, negsuc, sym, refl, ap, ◌∙◌, lt_of_not-le, le-div_iff_mul-le, arith, w64, SFits, ltb-true, le-ltb, lt-ltb, le-leb}
use native.Mathlib.Decide.{dec_le}
use borrow.Author.Tests.{lt-leb}
use Rattle.integers.specs.Integers.{is_i64, checked}
use Rattle.integers.proofs.Signed.{plus, minus}
use Rattle.std.specs.Prelude.{Option, Some, None, SomeIff}

pub inside : (z : ℤ) → SFits w64 z → is_i64 z ≡ true
unfolding is_i64
inside (pos n) f = lt-ltb n (2 ^ 63) f.sfits
inside (negsuc n) f = lt-ltb n (2 ^ 63) f.sfits

pub fits : (z : ℤ) → is_i64 z ≡ true → SFits w64 z
unfolding is_i64
fits (pos n) e = record { sfits = ltb-true n (2 ^ 63) e }
fits (negsuc n) e = record { sfits = ltb-true n (2 ^ 63) e }

-- p - m is no i64
abbrev pub Beyond : ℕ → ℕ → Type 0
Beyond p m = 2 ^ 63 < max (suc p - m) (m - p)

pub outside : (z : ℤ) → Beyond (plus z) (minus z) → is_i64 z ≡ false
unfolding is_i64
outside (pos n) h = le-ltb n (2 ^ 63) (omega arith)
outside (negsuc n) h = le-ltb n (2 ^ 63) (omega arith)

pub not_held : (z : ℤ) → (SFits w64 z → ⊥) → is_i64 z ≡ false
not_held z h = go (is_i64 z) refl
  where
    go : (b : Bool) → is_i64 z ≡ b → is_i64 z ≡ false
    go true e = absurd (h (fits z e))
    go false e = e

-- the exact result in std's words
pub is_checked : (r : Option ℤ) (z : ℤ) → SomeIff r (SFits w64 z) z → r ≡ checked z
unfolding checked
is_checked (Some x) z h = ap Some h.1 ∙ sym (ap (λ b. cond b (Some z) None) (inside z h.0))
is_checked None z h = sym (ap (λ b. cond b (Some z) None) (not_held z h))

-- a number that is known by its test
pub exact_if : (z : ℤ) → is_i64 z ≡ true → Some z ≡ checked z
unfolding checked
exact_if z e = rw e

pub none_if : (z : ℤ) → is_i64 z ≡ false → None ≡ checked z
unfolding checked
none_if z e = rw e

-- the test of `is_below_top` compares a product by a quotient
pub below_top : (n k r : ℕ) → r < k → r < 2 ^ 63 → leb n ((9223372036854775807 - r) / k) ≡ ltb (n * k + r) (2 ^ 63)
below_top n k r h l = go (dec_le (n * k) (9223372036854775807 - r))
  where
    d : (n ≤ (9223372036854775807 - r) / k) ↔ (n * k ≤ 9223372036854775807 - r)
    d = le-div_iff_mul-le (omega arith)

    go : Dec (n * k ≤ 9223372036854775807 - r) → leb n ((9223372036854775807 - r) / k) ≡ ltb (n * k + r) (2 ^ 63)
    go (yes p) = le-leb _ _ (d.1 p) ∙ sym (lt-ltb (n * k + r) (2 ^ 63) (omega arith))
    go (no p) = lt-leb _ _ (lt_of_not-le (λ x. p (d.0 x))) ∙ sym (le-ltb (n * k + r) (2 ^ 63) (omega arith))

-- what a checked result tells of the exact one
pub exact_tells : {x : ℤ} (z : ℤ) → Some x ≡ checked z → (is_i64 z ≡ true) × (x ≡ z)
unfolding checked
exact_tells {x} z e = go (is_i64 z) refl e
  where
    go : (b : Bool) → is_i64 z ≡ b → Some x ≡ cond b (Some z) None → (is_i64 z ≡ true) × (x ≡ z)
    go true p q = (p, cc)
    go false p q = let n : ◌≡◌ {A = ℕ} 0 1 = cc in absurd (omega arith)

pub outside_tells : (z : ℤ) → None ≡ checked z → is_i64 z ≡ false
unfolding checked
outside_tells z e = go (is_i64 z) refl e
  where
    go : (b : Bool) → is_i64 z ≡ b → None ≡ cond b (Some z) None → is_i64 z ≡ false
    go true p q = let n : ◌≡◌ {A = ℕ} 0 1 = cc in absurd (omega arith)
    go false p q = p
