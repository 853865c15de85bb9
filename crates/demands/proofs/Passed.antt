-- What an outcome tells of what it was made of.
use mathlib.Core.Path.{◌≡◌, sym, ap}
use Prim.Native.Nat.{ℕ}
use lib.IntN.{ℤ}
use Rattle.errors.specs.Refusals.{Outcome, gives, refuses, refuses_in_range_error}
use Rattle.errors.proofs.Outcomes.{gives_one, inner_not, refuses_not}
use Rattle.counts.specs.Counts.{with_nanos}

-- nanoseconds were added to a value
pub with_nanos_lem : {k : ℕ} {s : ℤ} (n : ℕ) (o : Outcome ℤ) → with_nanos n o ≡ gives (s, k) → (o ≡ gives s) × (k ≡ n)
with_nanos_lem n (gives x) e = let p = gives_one e in (ap (λ z. gives z.0) p, sym (ap (λ z. z.1) p))
with_nanos_lem n (refuses r) e = absurd (refuses_not e)
with_nanos_lem n (refuses_in_range_error r) e = absurd (inner_not e)
