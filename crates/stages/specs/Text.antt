-- How a stamp is read (document 01, as 02 amends it): the whole text, stage by stage, each on the rest that the one before it left.
use Rattle.std.specs.Prelude.{Bool, true, false, cond, ◌||◌, Result, Ok, Err, List, ℕ, leb, ℤ, pos, neg_ℤ, drop}
use Rattle.errors.specs.declared.ParseDateTimeError.{ParseDateTimeError}
use Rattle.errors.specs.declared.ParseDateTimeError.TheVariants.{MissingField, InvalidFieldWidth, InvalidFieldValue}
use Rattle.decimals.specs.Numbers.{begins_with, number, on_number}
use Rattle.fields.specs.Fields.{unless, width, before, delimited, behind, two_digits, seconds}
use Rattle.fields.specs.declared.Delimiter.{Delimiter}
use Rattle.fields.specs.declared.Delimiter.TheVariants.{Hyphen, SpaceOrT, Colon}
use Rattle.fields.specs.declared.Field.{Field}
use Rattle.fields.specs.declared.Seconds.{Seconds}
use Rattle.dates.specs.declared.DateTime.{DateTime}

-- what a text says, or why it is refused
abbrev pub Parsed : Type 0
Parsed = Result DateTime ParseDateTimeError

-- a field's refusal is the text's, and so is a missing delimiter
abbrev pub on_field : Result Field ParseDateTimeError → (ℕ → Parsed) → Parsed
on_field (Ok (Field.Got v)) next = next v
on_field (Ok (Field.Last v)) next = Err MissingField
on_field (Err e) next = Err e

-- month, day, hour, minute: the value and the rest behind the delimiter go on to the next stage
unfoldable pub field : Delimiter → List ℕ → (ℕ → List ℕ → Parsed) → Parsed
field d s next = on_field (two_digits d s) λ v. next v (behind d s)

-- the seconds' refusal is the text's
abbrev pub on_seconds : Result Seconds ParseDateTimeError → (ℕ → ℕ → Parsed) → Parsed
on_seconds (Ok x) next = next x.sec x.nano
on_seconds (Err e) next = Err e

-- everything behind the year
unfoldable pub from_month : ℤ → List ℕ → Parsed
from_month year s =
    field Hyphen s λ month s.
    field SpaceOrT s λ day s.
    field Colon s λ hour s.
    field Colon s λ min s.
    on_seconds (seconds s) λ sec nano.
    Ok (record { year = year; month = month; day = day; hour = hour; min = min; sec = sec; nano = nano })

-- a year of this size, below 0 where the outer sign is `-`
abbrev pub with_sign : Bool → ℕ → ℤ
with_sign true size = neg_ℤ (pos size)
with_sign false size = pos size

-- the year: here alone the delimiter is tested first
unfoldable pub from_year : ℕ → Bool → List ℕ → Parsed
from_year limit negative s =
    unless (delimited Hyphen s) (Err MissingField)
    (unless (leb 4 (width Hyphen s)) (Err InvalidFieldWidth)
    (on_number (number limit (before Hyphen s)) (Err InvalidFieldValue) λ size. from_month (with_sign negative size) (behind Hyphen s)))

-- the rest behind the outer sign, `+` (43) or `-` (45), where there is one
unfoldable pub without_sign : List ℕ → List ℕ
without_sign s = cond (begins_with 43 s || begins_with 45 s) (drop 1 s) s

-- what a text says, where the size of a year is at most the limit
unfoldable pub parsed : ℕ → List ℕ → Parsed
parsed limit text = from_year limit (begins_with 45 text) (without_sign text)
