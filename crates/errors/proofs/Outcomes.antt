-- What an outcome tells of what it was made of.
use mathlib.Core.Path.{◌≡◌, refl}
use mathlib.Core.Bool.{Bool, true, false}
use Prim.Native.Nat.{ℕ}
use native.Mathlib.Omega.{arith}
use Rattle.errors.specs.Refusals.{Refusal, Outcome, gives, refuses, refuses_in_range_error, check}

pub gives_one : {A : Type 0} {x y : A} → gives x ≡ gives y → x ≡ y
gives_one e = cc

pub refuses_one : {A : Type 0} {r q : Refusal} → ◌≡◌ {A = Outcome A} (refuses r) (refuses q) → r ≡ q
refuses_one e = cc

pub refuses_not : {A : Type 0} {r : Refusal} {x : A} → refuses r ≡ gives x → ⊥
refuses_not e = let z : ◌≡◌ {A = ℕ} 0 1 = cc in omega arith

pub inner_not : {A : Type 0} {r : Refusal} {x : A} → refuses_in_range_error r ≡ gives x → ⊥
inner_not e = let z : ◌≡◌ {A = ℕ} 0 1 = cc in omega arith

-- a value came through a check: the test held
pub passed : {A : Type 0} {x : A} (b : Bool) (r : Refusal) (o : Outcome A) → check b r o ≡ gives x → (b ≡ true) × (o ≡ gives x)
passed true r o e = (refl, e)
passed false r o e = absurd (refuses_not e)
