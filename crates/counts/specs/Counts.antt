-- What each entry answers, as `seconds` and `durations` say it; of calendar fields, in exact integers, by the rules of `dates`.
use Rattle.std.specs.Prelude.{ℕ, ℤ, ◌-ℤ◌}
use Rattle.integers.specs.Integers.{is_i64}
use Rattle.errors.specs.Refusals.{Outcome, gives, refuses, refuses_in_range_error, check, of_date_time}
use Rattle.errors.specs.declared.DateTimeError.TheVariants.{OutOfRange}
use Rattle.calendar.specs.Walk.{date}
use Rattle.moments.specs.Moments.{seconds_of}
pub use Rattle.seconds.specs.Counts.{representable, good_nanos}
unfoldable pub use Rattle.seconds.specs.Counts.{new_time, from_unix, to_unix, over_epoch}
unfoldable pub use Rattle.durations.specs.Durations.{exact, time_at, duration_at, added, taken, since, order, compared}
pub use Rattle.dates.specs.Dates.{fields_checked}

-- an outcome of seconds, with nanoseconds added to its value
abbrev pub with_nanos : ℕ → Outcome ℤ → Outcome (ℤ × ℕ)
with_nanos nanos (gives secs) = gives (secs, nanos)
with_nanos nanos (refuses r) = refuses r
with_nanos nanos (refuses_in_range_error r) = refuses_in_range_error r

-- the seconds of calendar fields: 0 to 5, and then 6
unfoldable pub date_time_secs : ℤ → ℤ → ℕ → ℕ → ℕ → ℕ → ℕ → ℕ → Outcome ℤ
date_time_secs epoch year month day hour min sec nano =
    fields_checked year month day hour min sec nano (check (is_i64 secs) (of_date_time OutOfRange) (gives secs))
  where
    secs : ℤ
    secs = seconds_of (record { date = date year month day; time = record { hour = hour; minute = min; second = sec } }) -ℤ epoch

-- the same with the nanoseconds
unfoldable pub from_date_time : ℤ → ℤ → ℕ → ℕ → ℕ → ℕ → ℕ → ℕ → Outcome (ℤ × ℕ)
from_date_time epoch year month day hour min sec nano =
    with_nanos nano (date_time_secs epoch year month day hour min sec nano)
