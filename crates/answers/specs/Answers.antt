-- The answer line of an entry's outcome.
use Rattle.std.specs.Prelude.{Bool, true, false, List, [], ◌∷◌, ◌++◌, ℕ, ℤ, get_or}
use Rattle.errors.specs.Refusals.{Refusal, Outcome, gives, refuses, refuses_in_range_error}
use Rattle.std.specs.declared.cmp.Ordering.{Ordering}
use Rattle.std.specs.declared.cmp.Ordering.TheVariants.{Less, Equal, Greater}
use Rattle.texts.specs.Texts.{bytes, natural, integer}

-- the names in document 01's table, from number 0 on
abbrev pub names : List (List ℕ)
names =
    bytes "InvalidMonth"
    ∷ bytes "InvalidDayOfMonth"
    ∷ bytes "InvalidHour"
    ∷ bytes "InvalidMinute"
    ∷ bytes "InvalidSecond"
    ∷ bytes "InvalidNanosecond"
    ∷ bytes "OutOfRange"
    ∷ bytes "MissingField"
    ∷ bytes "InvalidFieldWidth"
    ∷ bytes "InvalidFieldValue"
    ∷ bytes "NotRepresentable"
    ∷ bytes "BadNanos"
    ∷ bytes "StartOutside"
    ∷ bytes "NoRoom"
    ∷ []

-- the name of a number, none of one that no refusal has
abbrev pub name_of : ℕ → List ℕ
name_of number = get_or names number []

-- a refusal's values, each behind a blank
abbrev pub values_text : List ℤ → List ℕ
values_text [] = []
values_text (z ∷ zs) = (bytes " " ++ integer z) ++ values_text zs

-- what stands before the name of a refusal that arrived inside a RangeError
abbrev pub mark : Bool → List ℕ
mark true = bytes "RangeError "
mark false = []

-- `refused NUMBER NAME` and the values
unfoldable pub refusal_text : Bool → Refusal → List ℕ
refusal_text inside r =
    bytes "refused " ++ natural r.number ++ bytes " " ++ mark inside ++ name_of r.number ++ values_text r.values

-- the line of an outcome whose value is written so
abbrev pub line : {A : Type 0} → (A → List ℕ) → Outcome A → List ℕ
line text (gives x) = bytes "ok " ++ text x
line text (refuses r) = refusal_text false r
line text (refuses_in_range_error r) = refusal_text true r

abbrev pub time_line : Outcome (ℤ × ℕ) → List ℕ
time_line = line λ t. integer t.0 ++ (bytes " " ++ natural t.1)

abbrev pub duration_line : Outcome (ℕ × ℕ) → List ℕ
duration_line = line λ d. natural d.0 ++ (bytes " " ++ natural d.1)

abbrev pub order_text : Ordering → List ℕ
order_text Less = bytes "earlier"
order_text Equal = bytes "same"
order_text Greater = bytes "later"

abbrev pub malformed : List ℕ
malformed = bytes "malformed"
