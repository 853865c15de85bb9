-- What decides a check: nanoseconds that are good or bad, a checked sum that was given or not.
use mathlib.Core.Path.{◌≡◌, sym, ap, ◌∙◌, refl}
use mathlib.Core.Bool.{true, false}
use Prim.Native.Nat.{ℕ, ◌≤◌, ◌<◌}
use native.Mathlib.Omega.{arith}
use lib.Dec.{ltb}
use lib.IntN.{ℤ, pos, ◌+ℤ◌, ◌-ℤ◌}
use borrow.Author.Tests.{lt-ltb, le-ltb}
use Rattle.std.specs.Prelude.{Option, Some, None, Result, Err, IsErrAnd, ok_or}
use Rattle.integers.specs.Integers.{is_i64, checked}
use Rattle.integers.proofs.Signed.{eq_z, add_law, diff_law}
use Rattle.integers.proofs.Sums.{exact_tells, outside_tells}
use Rattle.errors.specs.Refusals.{Outcome, gives, refuses, says, of_count}
use Rattle.errors.specs.declared.CountError.{CountError}
use Rattle.errors.specs.declared.CountError.TheVariants.{NotRepresentable, BadNanos}
use Rattle.errors.proofs.Told.{handed_on}
use Rattle.seconds.specs.Counts.{representable, good_nanos}

pub bad : (n : ℕ) → 999999999 < n → ltb n 1000000000 ≡ false
bad n h = le-ltb n 1000000000 (omega arith)

pub good : (n : ℕ) → n ≤ 999999999 → ltb n 1000000000 ≡ true
good n h = lt-ltb n 1000000000 (omega arith)

module _ {s : Option ℤ} (z : ℤ) (e : s ≡ checked z) where
  pub outside : s ≡ None → is_i64 z ≡ false
  outside f = outside_tells z (sym f ∙ e)

  pub inside : {x : ℤ} → s ≡ Some x → is_i64 z ≡ true
  inside f = (exact_tells z (sym f ∙ e)).0

  pub value : {x : ℤ} → s ≡ Some x → x ≡ z
  value f = (exact_tells z (sym f ∙ e)).1

  pub given : {A : Type 0} (f : ℤ → A) {x : ℤ} → s ≡ Some x → gives (f x) ≡ representable z (gives (f z))
  given f p = rw (inside p) (ap (λ x. gives (f x)) (value p))

-- two kinds of nanoseconds
pub both_good : {A : Type 0} {n m : ℕ} {rest : Outcome A} → n < 1000000000 → m < 1000000000 → good_nanos n (good_nanos m rest) ≡ rest
both_good {n = n} {m = m} h k = rw (lt-ltb n 1000000000 h, lt-ltb m 1000000000 k) refl

pub one_good : {A : Type 0} {n : ℕ} {rest : Outcome A} → n < 1000000000 → good_nanos n rest ≡ rest
one_good {n = n} h = rw (lt-ltb n 1000000000 h) refl

-- where there was no sum
pub no_sum : {A : Type 0} {s : Option A} {e : CountError} → ◌≡◌ {A = Result A CountError} (Err e) (ok_or s NotRepresentable) → s ≡ None → e ≡ NotRepresentable
no_sum {A} {e = e} k l = let q : ◌≡◌ {A = Result A CountError} (Err e) (Err NotRepresentable) = k ∙ ap (λ s. ok_or s NotRepresentable) l in cc

-- an error that `?` hands on: 11, or 10
module _ {A B : Type 0} (form : A → B) (rest : Outcome B) where
  pub bad_nanos : (n : ℕ) (r : Result A CountError) (e : CountError) → IsErrAnd r (λ y. y ≡ e) → (1000000000 ≤ n) × (e ≡ BadNanos) → says form of_count r ≡ good_nanos n rest
  bad_nanos n r e h k = handed_on form of_count r e h ∙ ap (λ e. refuses (of_count e)) k.1 ∙ sym (rw (bad n (omega (arith, k.0))) refl)

  pub not_representable : (z : ℤ) {s : Option ℤ} → s ≡ checked z → (r : Result A CountError) (e : CountError) → IsErrAnd r (λ y. y ≡ e)
      → ◌≡◌ {A = Result ℤ CountError} (Err e) (ok_or s NotRepresentable) → s ≡ None → says form of_count r ≡ representable z rest
  not_representable z sum r e h k l = handed_on form of_count r e h ∙ ap (λ e. refuses (of_count e)) (no_sum k l) ∙ sym (rw (outside z sum l) refl)

-- the sum as `checked_sum` is handed it, and as it is meant
pub in_turn : (a more less : ℤ) → a +ℤ pos 0 +ℤ more -ℤ less ≡ a -ℤ less +ℤ more
in_turn a more less = eq_z _ _
    (omega (arith, diff_law (a +ℤ pos 0 +ℤ more) less, add_law (a +ℤ pos 0) more, add_law a (pos 0), add_law (a -ℤ less) more, diff_law a less))
