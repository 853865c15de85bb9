-- A stage of a text, by what is found of its field.
use mathlib.Core.Path.{◌≡◌}
use mathlib.Core.List.{List}
use Prim.Native.Nat.{ℕ}
use lib.ListN.{drop}
use Rattle.std.specs.Prelude.{Ok, Err}
use Rattle.errors.specs.declared.ParseDateTimeError.{ParseDateTimeError}
use Rattle.errors.specs.declared.ParseDateTimeError.TheVariants.{MissingField}
use Rattle.fields.specs.Fields.{two_digits}
use Rattle.fields.specs.declared.Delimiter.{Delimiter}
use Rattle.fields.specs.declared.Field.TheVariants.{Got, Last}
use Rattle.fields.proofs.Behind.{behind_two}
use Rattle.stages.specs.Text.{Parsed, field}

module _ (d : Delimiter) (s : List ℕ) where
  pub read_on : {v : ℕ} → two_digits d s ≡ Ok (Got v) → (next : ℕ → List ℕ → Parsed) → field d s next ≡ next v (drop 3 s)
  unfolding field
  read_on e next = rw (e, behind_two d s e)

  pub unended : {v : ℕ} → two_digits d s ≡ Ok (Last v) → (next : ℕ → List ℕ → Parsed) → field d s next ≡ Err MissingField
  unfolding field
  unended e next = rw e

  pub refused : {r : ParseDateTimeError} → two_digits d s ≡ Err r → (next : ℕ → List ℕ → Parsed) → field d s next ≡ Err r
  unfolding field
  refused e next = rw e
