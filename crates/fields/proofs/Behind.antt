-- What stands behind a field of two bytes.
use mathlib.Core.Path.{◌≡◌, refl}
use mathlib.Core.Bool.{Bool, true, false}
use mathlib.Core.List.{List}
use Prim.Native.Nat.{ℕ}
use lib.Dec.{eqb}
use lib.ListN.{drop}
use borrow.Author.Tests.{eqb-true}
use Rattle.std.specs.Prelude.{Result, Ok, Err}
use Rattle.errors.specs.declared.ParseDateTimeError.{ParseDateTimeError}
use Rattle.errors.specs.declared.ParseDateTimeError.TheVariants.{InvalidFieldWidth}
use Rattle.fields.specs.Fields.{unless, width, behind, two_digits}
use Rattle.fields.specs.declared.Delimiter.{Delimiter}
use Rattle.fields.specs.declared.Field.{Field}

got_two : (n : ℕ) (f : Result Field ParseDateTimeError) {v : ℕ} (b : Bool) → eqb n 2 ≡ b → unless b (Err InvalidFieldWidth) f ≡ Ok (Field.Got v) → n ≡ 2
got_two n f true e h = eqb-true n 2 e
got_two n f false e h = cc

-- two bytes and a delimiter stand before the rest
pub behind_two : (d : Delimiter) (s : List ℕ) {v : ℕ} → two_digits d s ≡ Ok (Field.Got v) → behind d s ≡ drop 3 s
unfolding two_digits
behind_two d s h = rw (got_two (width d s) _ _ refl h)
