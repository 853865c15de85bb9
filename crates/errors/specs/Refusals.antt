-- Each refusal by its number and its values in document 01's table, "When the box says no", and want of room by document 02, ask 11.
use Rattle.std.specs.Prelude.{Bool, cond, Result, Ok, Err, List, [], ◌∷◌, ℕ, ℤ, pos}
use Rattle.errors.specs.declared.DateTimeError.{DateTimeError}
use Rattle.errors.specs.declared.DateTimeError.TheVariants.{InvalidMonth, InvalidDayOfMonth, InvalidHour, InvalidMinute, InvalidSecond, InvalidNanosecond, OutOfRange}
use Rattle.errors.specs.declared.ParseDateTimeError.{ParseDateTimeError}
use Rattle.errors.specs.declared.ParseDateTimeError.TheVariants.{MissingField, InvalidFieldWidth, InvalidFieldValue, RangeError}
use Rattle.errors.specs.declared.CountError.{CountError}
use Rattle.errors.specs.declared.CountError.TheVariants as Count
use Rattle.errors.specs.declared.PrintError.{PrintError}
use Rattle.errors.specs.declared.PrintError.TheVariants as Print

pub record Refusal : Type 0 where
  pub number : ℕ
  pub values : List ℤ

abbrev pub refusal : ℕ → List ℤ → Refusal
refusal n v = record { number = n; values = v }

-- what an entry says: a value, a refusal, or a date's refusal that arrived inside a RangeError
pub data Outcome (A : Type 0) : Type 0 where
  gives : A → Outcome A
  refuses : Refusal → Outcome A
  refuses_in_range_error : Refusal → Outcome A

-- what a Result says: its value by a form, or its error's refusal
abbrev pub says : {A B E : Type 0} → (A → B) → (E → Refusal) → Result A E → Outcome B
says form refusal_of (Ok x) = gives (form x)
says form refusal_of (Err e) = refuses (refusal_of e)

-- the test holds, or the refusal is given
abbrev pub check : {A : Type 0} → Bool → Refusal → Outcome A → Outcome A
check test r rest = cond test rest (refuses r)

abbrev pub of_date_time : DateTimeError → Refusal
of_date_time (InvalidMonth month) = refusal 0 (pos month ∷ [])
of_date_time (InvalidDayOfMonth day) = refusal 1 (pos day ∷ [])
of_date_time (InvalidHour hour) = refusal 2 (pos hour ∷ [])
of_date_time (InvalidMinute min) = refusal 3 (pos min ∷ [])
of_date_time (InvalidSecond sec) = refusal 4 (pos sec ∷ [])
of_date_time (InvalidNanosecond nano) = refusal 5 (pos nano ∷ [])
of_date_time OutOfRange = refusal 6 []

abbrev pub of_parse : {A : Type 0} → ParseDateTimeError → Outcome A
of_parse MissingField = refuses (refusal 7 [])
of_parse InvalidFieldWidth = refuses (refusal 8 [])
of_parse InvalidFieldValue = refuses (refusal 9 [])
of_parse (RangeError e) = refuses_in_range_error (of_date_time e)

abbrev pub of_count : CountError → Refusal
of_count Count.NotRepresentable = refusal 10 []
of_count Count.BadNanos = refusal 11 []

abbrev pub of_print : PrintError → Refusal
of_print Print.BadNanos = refusal 11 []
of_print Print.StartOutside = refusal 12 []
of_print (Print.NoRoom wanted) = refusal 13 (pos wanted ∷ [])
