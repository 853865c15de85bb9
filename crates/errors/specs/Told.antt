-- A refusal as the code hands it on.
use Rattle.std.specs.Prelude.{Bool, true, false, Option, Some, None, List, [], ◌∷◌, ℕ, ℤ, pos}
use Rattle.errors.specs.Refusals.{Refusal, refusal, Outcome, gives, refuses, refuses_in_range_error, of_date_time, of_parse, of_count, of_print}
use Rattle.errors.specs.declared.refusal.Refusal as Code
use Rattle.errors.specs.declared.refusal.Refusal.TheVariants.{Date, Text, Count, Print, Other}

-- a refusal that arrived inside a RangeError, or not
abbrev pub marked : {A : Type 0} → Bool → Refusal → Outcome A
marked true r = refuses_in_range_error r
marked false r = refuses r

-- the values of a refusal that has one or none
abbrev pub values : Option ℕ → List ℤ
values None = []
values (Some v) = pos v ∷ []

-- what a refusal that is handed on says, as the outcome of a refused entry: `Other` is one of a crate's own, and says what that crate gave it
abbrev pub told : {A : Type 0} → Code.Refusal → Outcome A
told (Date e) = refuses (of_date_time e)
told (Text e) = of_parse e
told (Count e) = refuses (of_count e)
told (Print e) = refuses (of_print e)
told (Other number inside value) = marked inside (refusal number (values value))

-- the number and values of an outcome that is refused; `told` gives none that is not
abbrev refused : Outcome ℕ → Refusal
refused (gives x) = refusal 0 []
refused (refuses r) = r
refused (refuses_in_range_error r) = r

-- those of a refusal
abbrev pub inner : Code.Refusal → Refusal
inner r = refused (told r)
