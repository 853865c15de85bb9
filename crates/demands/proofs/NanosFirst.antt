-- Nanoseconds that are none are refused before anything else is asked.
use mathlib.Core.Path.{◌≡◌, refl}
use mathlib.Core.Bool.{Bool, true, false}
use mathlib.Core.List.{[]}
use mathlib.Core.Logic.{◌⊎◌, ⊎_elim}
use Prim.Native.Nat.{ℕ, ◌≤◌}
use lib.Dec.{ltb}
use borrow.Author.Tests.{le-ltb}
use Rattle.errors.specs.Refusals.{refusal, Outcome, refuses, check}
use Rattle.counts.specs.Counts.{good_nanos}

pub first : {A : Type 0} (nanos : ℕ) (o : Outcome A) → 1000000000 ≤ nanos → good_nanos nanos o ≡ refuses (refusal 11 [])
first nanos o h = rw (le-ltb nanos 1000000000 h)

-- the first of two, or the second
pub either : {A : Type 0} (nanos nanos' : ℕ) (o : Outcome A) → (1000000000 ≤ nanos) ⊎ (1000000000 ≤ nanos') → good_nanos nanos (good_nanos nanos' o) ≡ refuses (refusal 11 [])
either {A} nanos nanos' o = ⊎_elim (λ h. rw (le-ltb nanos 1000000000 h)) (λ h. rw (le-ltb nanos' 1000000000 h) (again (ltb nanos 1000000000)))
  where
    again : (b : Bool) → check {A = A} b (refusal 11 []) (refuses (refusal 11 [])) ≡ refuses (refusal 11 [])
    again true = refl
    again false = refl
