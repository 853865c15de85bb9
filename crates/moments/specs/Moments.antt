-- A moment is a date and a time of day; seconds count from 1970-01-01 00:00:00.
use Rattle.std.specs.Prelude.{◌≡◌, ℕ, ◌+◌, ◌*◌, ◌/◌, ◌%◌, ◌≤◌, ◌<◌, ℤ, pos, ◌+ℤ◌, ◌*ℤ◌}
use Rattle.integers.specs.Integers.{floor_div, floor_mod}
use Rattle.moments.specs.declared.Moment.{Moment}
use Rattle.moments.specs.declared.Time.{Time}
use Rattle.calendar.specs.Walk.{walk, Earlier}
use Rattle.calendar.specs.Closed.{day_number}

-- the time at a second of the day
unfoldable pub time_of_day : ℕ → Time
time_of_day n = record { hour = n / 3600; minute = n / 60 % 60; second = n % 60 }

-- the moment at a count of seconds: the walk goes the whole days, rounded down, and the rest is the time
unfoldable pub moment_at : ℤ → Moment
moment_at z = record { date = walk (floor_div 86400 z); time = time_of_day (floor_mod 86400 z) }

-- a time that exists
pub record ValidTime (t : Time) : Type 0 where
  pub hour_to : t.hour ≤ 23
  pub minute_to : t.minute ≤ 59
  pub second_to : t.second ≤ 59

unfoldable pub second_of_day : Time → ℕ
second_of_day t = t.hour * 3600 + t.minute * 60 + t.second

-- the seconds at a moment (proofs/Moments.antt: it inverts moment_at, both ways)
unfoldable pub seconds_of : Moment → ℤ
seconds_of m = day_number m.date *ℤ pos 86400 +ℤ pos (second_of_day m.time)

-- an earlier moment: by date, then by hour, minute and second
pub data EarlierMoment (a b : Moment) : Type 0 where
  by_date : Earlier a.date b.date → EarlierMoment a b
  by_hour : a.date ≡ b.date → a.time.hour < b.time.hour → EarlierMoment a b
  by_minute : a.date ≡ b.date → a.time.hour ≡ b.time.hour → a.time.minute < b.time.minute → EarlierMoment a b
  by_second : a.date ≡ b.date → a.time.hour ≡ b.time.hour → a.time.minute ≡ b.time.minute → a.time.second < b.time.second → EarlierMoment a b
