-- The leap rule as divisibility of the signed year.
use mathlib.Core.Path.{◌≡◌, refl, sym, ap, ◌∙◌}
use mathlib.Core.Bool.{Bool, true, false, not, ◌&&◌, ◌||◌, false≢true}
use mathlib.Core.Logic.{◌↔◌, ◌⊎◌, inl, inr}
use Prim.Native.Nat.{ℕ, suc, ◌*◌, ◌/◌, ◌%◌}
use native.Mathlib.Nat.{div-add-mod', mul-mod_left, zero-mul}
use native.Mathlib.Omega.{arith}
use lib.IntN.{ℤ, pos, negsuc, nat_abs, neg_ℤ, ◌*ℤ◌}
use borrow.Author.Tests.{eqb-true, eq-eqb}
use Rattle.integers.proofs.Signed.{eq_z, size_law, times_law, neg_size}
use Rattle.calendar.specs.Walk.{divides, is_leap}
use Rattle.demands.specs.Values.{Divides}

multiple : (k : ℕ) (y : ℤ) → nat_abs y % k ≡ 0 → Divides k y
multiple k (pos n) h = (pos (n / k), ap pos (omega (arith, div-add-mod' n k)))
multiple k (negsuc n) h =
    let m = suc n / k in
    let q = neg_ℤ (pos m) in
    (q, eq_z _ _ (omega (arith, div-add-mod' (suc n) k, times_law q k, ap (λ x. x * k) (neg_size m).0, ap (λ x. x * k) (neg_size m).1, zero-mul k)))

size_of : (k : ℕ) (q : ℤ) → nat_abs (q *ℤ pos k) ≡ nat_abs q * k
size_of k (pos a) = refl
size_of k (negsuc a) = let m = suc a * k in size_law (neg_ℤ (pos m)) ∙ omega (arith, neg_size m)

pub divides_is : (k : ℕ) (y : ℤ) → (divides k y ≡ true) ↔ Divides k y
unfolding divides
divides_is k y = (λ e. multiple k y (eqb-true _ _ e), λ d. eq-eqb _ _ (ap (λ z. nat_abs z % k) d.1 ∙ ap (λ n. n % k) (size_of k d.0) ∙ mul-mod_left (nat_abs d.0) k))

pub leap_is : (y : ℤ) → (is_leap y ≡ true) ↔ (Divides 4 y × ((Divides 100 y → ⊥) ⊎ Divides 400 y))
unfolding is_leap
leap_is y = (there (divides 4 y) (divides 100 y) (divides 400 y) refl refl refl, back)
  where
    there : (a b c : Bool) → divides 4 y ≡ a → divides 100 y ≡ b → divides 400 y ≡ c → (a && (not b || c)) ≡ true → Divides 4 y × ((Divides 100 y → ⊥) ⊎ Divides 400 y)
    there true true true p q r e = ((divides_is 4 y).0 p, inr ((divides_is 400 y).0 r))
    there true true false p q r e = absurd (false≢true e)
    there true false c p q r e = ((divides_is 4 y).0 p, inl (λ d. false≢true (sym q ∙ (divides_is 100 y).1 d)))
    there false b c p q r e = absurd (false≢true e)

    back : Divides 4 y × ((Divides 100 y → ⊥) ⊎ Divides 400 y) → (divides 4 y && (not (divides 100 y) || divides 400 y)) ≡ true
    back (a, s) = rw ((divides_is 4 y).1 a) (go (divides 100 y) refl s)
      where
        go : (b : Bool) → divides 100 y ≡ b → (Divides 100 y → ⊥) ⊎ Divides 400 y → (not b || divides 400 y) ≡ true
        go true e (inl f) = absurd (f ((divides_is 100 y).0 e))
        go true e (inr d) = (divides_is 400 y).1 d
        go false e s = refl
