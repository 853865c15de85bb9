-- The numbers that an outcome may refuse with.
use Rattle.std.specs.Prelude.{Bool, false, ◌||◌, List, [], ◌∷◌, ℕ, T, eqb}
use Rattle.errors.specs.Refusals.{Refusal, Outcome, gives, refuses, refuses_in_range_error}

abbrev pub is_among : ℕ → List ℕ → Bool
is_among n [] = false
is_among n (m ∷ numbers) = eqb n m || is_among n numbers

-- the outcome is a value, or a refusal by one of the first numbers, or one by the second that arrived inside a RangeError
pub data OnlyRefuses {A : Type 0} (own inner : List ℕ) : Outcome A → Type 0 where
  a_value : {x : A} → OnlyRefuses own inner (gives x)
  a_refusal : {r : Refusal} → T (is_among r.number own) → OnlyRefuses own inner (refuses r)
  within_range_error : {r : Refusal} → T (is_among r.number inner) → OnlyRefuses own inner (refuses_in_range_error r)
