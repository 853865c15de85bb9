-- The field at the front of a text: its width is tested first, then its value, then its delimiter.
use Rattle.std.specs.Prelude.{Bool, true, false, cond, ◌||◌, Result, Ok, Err, List, [], ◌∷◌, ℕ, suc, ◌+◌, ◌-◌, ◌*◌, ◌^◌, ltb, eqb, length, take, drop}
use Rattle.errors.specs.declared.ParseDateTimeError.{ParseDateTimeError}
use Rattle.errors.specs.declared.ParseDateTimeError.TheVariants.{MissingField, InvalidFieldWidth, InvalidFieldValue}
use Rattle.decimals.specs.Numbers.{all_digits, decimal, number, on_number}
use Rattle.fields.specs.declared.Delimiter.{Delimiter}
use Rattle.fields.specs.declared.Delimiter.TheVariants.{Hyphen, SpaceOrT, Colon, Point}
use Rattle.fields.specs.declared.Field.{Field}
use Rattle.fields.specs.declared.Seconds.{Seconds}

-- what comes next, refused unless the test holds
abbrev pub unless : {A : Type 0} → Bool → A → A → A
unless true refused next = next
unless false refused next = refused

-- `-` is 45; a space 32, `T` 84, `t` 116; `:` 58; `.` 46
unfoldable pub is_delimiter : Delimiter → ℕ → Bool
is_delimiter Hyphen x = eqb x 45
is_delimiter SpaceOrT x = eqb x 32 || eqb x 84 || eqb x 116
is_delimiter Colon x = eqb x 58
is_delimiter Point x = eqb x 46

-- how many bytes stand before the first delimiter: all where there is none
unfoldable pub width : Delimiter → List ℕ → ℕ
width d [] = 0
width d (x ∷ s) = cond (is_delimiter d x) 0 (suc (width d s))

-- these bytes
abbrev pub before : Delimiter → List ℕ → List ℕ
before d s = take (width d s) s

-- the delimiter follows them
abbrev pub delimited : Delimiter → List ℕ → Bool
delimited d s = ltb (width d s) (length s)

-- the rest of the text behind the delimiter
abbrev pub behind : Delimiter → List ℕ → List ℕ
behind d s = drop (width d s + 1) s

-- a field of two bytes
unfoldable pub two_digits : Delimiter → List ℕ → Result Field ParseDateTimeError
two_digits d s =
    unless (eqb (width d s) 2) (Err InvalidFieldWidth)
    (on_number (number 99 (before d s)) (Err InvalidFieldValue) λ v. Ok (cond (delimited d s) (Field.Got v) (Field.Last v)))

-- the nanoseconds that digits behind the point stand for: those past nine count for nothing
unfoldable pub nanoseconds : List ℕ → ℕ
nanoseconds s = decimal (take 9 s) * 10 ^ (9 - length s)

-- what follows the point: at least one digit, and digits only
unfoldable pub fraction : ℕ → List ℕ → Result Seconds ParseDateTimeError
fraction sec s =
    unless (ltb 0 (length s)) (Err MissingField)
    (unless (all_digits s) (Err InvalidFieldValue) (Ok (record { sec = sec; nano = nanoseconds s })))

-- the seconds end at the point or with the text
abbrev pub with_fraction : Result Field ParseDateTimeError → List ℕ → Result Seconds ParseDateTimeError
with_fraction (Ok (Field.Got sec)) rest = fraction sec rest
with_fraction (Ok (Field.Last sec)) rest = Ok (record { sec = sec; nano = 0 })
with_fraction (Err e) rest = Err e

unfoldable pub seconds : List ℕ → Result Seconds ParseDateTimeError
seconds s = with_fraction (two_digits Point s) (behind Point s)
