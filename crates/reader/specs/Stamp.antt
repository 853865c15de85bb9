-- From what a text says to a timestamp: the date's refusal arrives inside a RangeError, with its number.
use Rattle.std.specs.Prelude.{Result, Ok, Err, List, ℕ, ℤ}
use Rattle.errors.specs.declared.ParseDateTimeError.{ParseDateTimeError}
use Rattle.errors.specs.Refusals.{Outcome, gives, refuses, refuses_in_range_error, of_parse}
use Rattle.counts.specs.Counts.{from_date_time}
use Rattle.counts.specs.declared.TaiTime.{TaiTime}
use Rattle.stages.specs.Text.{Parsed, parsed}

-- what the answer says, by document 01's numbers and values
abbrev pub said_read : Result TaiTime ParseDateTimeError → Outcome (ℤ × ℕ)
said_read (Ok t) = gives (t.secs, t.nanos)
said_read (Err e) = of_parse e

abbrev pub inside_range_error : {A : Type 0} → Outcome A → Outcome A
inside_range_error (gives x) = gives x
inside_range_error (refuses r) = refuses_in_range_error r
inside_range_error (refuses_in_range_error r) = refuses_in_range_error r

-- a text error beats the date's: the rules of dates run only on what was read whole
abbrev pub stamped : ℤ → Parsed → Outcome (ℤ × ℕ)
stamped epoch (Ok f) =
    inside_range_error (from_date_time epoch f.year f.month f.day f.hour f.min f.sec f.nano)
stamped epoch (Err e) = of_parse e

-- the size of a year in a text is at most this
abbrev pub year_limit : ℕ
year_limit = 2147483647

-- what reading a text over an epoch answers, where the size of a year is at most the limit
unfoldable pub read_text : ℕ → ℤ → List ℕ → Outcome (ℤ × ℕ)
read_text limit epoch text = stamped epoch (parsed limit text)
