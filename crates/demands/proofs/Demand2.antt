-- Demand 2: the calendar is the proleptic Gregorian one of ISO 8601 and RFC 3339 (section 5.7, appendix C). It is the walk
-- from a day to the next, by month lengths alone; what is printed for a count is the date that the walk reaches.
use mathlib.Core.Path.{◌≡◌, refl}
use mathlib.Core.Bool.{true, false, cond}
use mathlib.Core.List.{List, [], ◌∷◌, ◌++◌}
use mathlib.Core.Logic.{◌↔◌, ◌⊎◌}
use Prim.Native.Nat.{ℕ, ◌+◌, ◌≤◌, ◌<◌}
use native.Mathlib.Omega.{arith}
use lib.IntN.{ℤ, pos, neg_ℤ, suc_ℤ, ◌+ℤ◌, ◌-ℤ◌}
use lib.ListN.{length, take, drop}
use Rattle.std.specs.Prelude.{Option}
use Rattle.integers.specs.Integers.{Floor, floor_div, floor_mod}
use Rattle.integers.proofs.Floor.{floor_law}
use Rattle.errors.specs.Refusals.{gives}
use Rattle.calendar.specs.declared.Date.{Date}
use Rattle.moments.specs.declared.Moment.{Moment}
use Rattle.calendar.specs.Walk.{is_leap, month_length, Valid, date, next, prev, start, walk}
use Rattle.calendar.specs.Closed.{day_number}
use Rattle.moments.specs.Moments.{time_of_day, moment_at, ValidTime, second_of_day, seconds_of}
use Rattle.calendar.proofs.Walk.{walk_valid, day_walk, walk_day}
use Rattle.calendar.proofs.Cycle.{walk_cycle, walk_to_year_0}
use Rattle.moments.proofs.Moments.{seconds_moment, moment_seconds}
use Rattle.printer.specs.Text.{text}
use Rattle.printer.specs.Display.{instant, time_text, displayed}
use Rattle.demands.specs.Values.{Divides, month_lengths, moment}
use Rattle.demands.proofs.LeapRule.{leap_is}
use Rattle.demands.proofs.WalkFacts.{walk_on, walk_back, next_day, next_month, next_year, common_lengths, leap_lengths, year_length_lem, year_0_leap, day_60_of_year_0, seconds_of_year_0, seconds_cycle, time_of}
use Rattle.demands.proofs.Lent.{printed}

-- ---- The walk
-- The walk starts at 1970-01-01,
pub walk_starts : walk (pos 0) ≡ date (pos 1970) 1 1
unfolding walk start
walk_starts = refl

-- goes a day on,
pub walk_goes_on : (n : ℤ) → walk (n +ℤ pos 1) ≡ next (walk n)
walk_goes_on = walk_on

-- and a day back,
pub walk_goes_back : (n : ℤ) → walk (n -ℤ pos 1) ≡ prev (walk n)
walk_goes_back = walk_back

-- always to a date that exists.
pub walk_exists : (n : ℤ) → Valid (walk n)
walk_exists = walk_valid

-- Within a month the next day has the next number,
pub within_a_month : (d : Date) → d.day < month_length d.year d.month → next d ≡ date d.year d.month (d.day + 1)
within_a_month = next_day

-- behind the month's last day comes the first of the next month,
pub behind_a_month : (d : Date) → d.day ≡ month_length d.year d.month → d.month < 12 → next d ≡ date d.year (d.month + 1) 1
behind_a_month = next_month

-- and behind December's last day the first of the next year.
pub behind_a_year : (d : Date) → d.day ≡ month_length d.year d.month → d.month ≡ 12 → next d ≡ date (suc_ℤ d.year) 1 1
behind_a_year = next_year

-- ---- RFC 3339, appendix C, and section 5.7
-- A year is leap exactly if 4 divides it and either 100 does not or 400 does.
pub leap_rule : (y : ℤ) → (is_leap y ≡ true) ↔ (Divides 4 y × ((Divides 100 y → ⊥) ⊎ Divides 400 y))
leap_rule = leap_is

-- The months of a common year,
pub common_year : (y : ℤ) → is_leap y ≡ false → month_lengths y ≡ 31 ∷ 28 ∷ 31 ∷ 30 ∷ 31 ∷ 30 ∷ 31 ∷ 31 ∷ 30 ∷ 31 ∷ 30 ∷ 31 ∷ []
common_year = common_lengths

-- and of a leap year.
pub leap_year : (y : ℤ) → is_leap y ≡ true → month_lengths y ≡ 31 ∷ 29 ∷ 31 ∷ 30 ∷ 31 ∷ 30 ∷ 31 ∷ 31 ∷ 30 ∷ 31 ∷ 30 ∷ 31 ∷ []
leap_year = leap_lengths

-- From a year's first day the walk takes 365 days to that of the next, and 366 in a leap year.
pub days_of_a_year : (n y : ℤ) → walk n ≡ date y 1 1 → walk (n +ℤ pos (cond (is_leap y) 366 365)) ≡ date (suc_ℤ y) 1 1
days_of_a_year = year_length_lem

-- ---- The cycle, and year 0
-- 400 years have 146,097 days,
pub days_of_400_years : (n : ℤ) → walk (n +ℤ pos 146097) ≡ date (pos 400 +ℤ (walk n).year) (walk n).month (walk n).day
days_of_400_years = walk_cycle

-- or 12,622,780,800 seconds.
pub seconds_of_400_years : (z : ℤ) → moment_at (z +ℤ pos 12622780800)
    ≡ record { date = date (pos 400 +ℤ (moment_at z).date.year) (moment_at z).date.month (moment_at z).date.day; time = (moment_at z).time }
seconds_of_400_years = seconds_cycle

-- From year 0 to 1970 are 719,528 days,
pub days_from_year_0 : walk (neg_ℤ (pos 719528)) ≡ date (pos 0) 1 1
days_from_year_0 = walk_to_year_0

-- or 62,167,219,200 seconds.
pub seconds_from_year_0 : moment_at (neg_ℤ (pos 62167219200)) ≡ moment (pos 0) 1 1 0 0 0
seconds_from_year_0 = seconds_of_year_0

-- Year 0 is leap,
pub year_0_is_leap : is_leap (pos 0) ≡ true
year_0_is_leap = year_0_leap

-- and the walk comes through its February 29.
pub walk_through_year_0 : walk (neg_ℤ (pos 719469)) ≡ date (pos 0) 2 29
walk_through_year_0 = day_60_of_year_0

-- ---- Counts and moments
-- A count of seconds is whole days, rounded down also below 0, and a rest below 86,400,
pub whole_days : (z : ℤ) → Floor 86400 z (floor_div 86400 z) (floor_mod 86400 z)
whole_days z = floor_law 86400 z (omega arith)

-- of which the walk goes the days, and the rest is the time.
pub moment_is_walked : (z : ℤ) → moment_at z ≡ record { date = walk (floor_div 86400 z); time = time_of_day (floor_mod 86400 z) }
unfolding moment_at
moment_is_walked z = refl

-- The time at a second of the day exists, and is that second.
pub time_of_day_lem : (n : ℕ) → n < 86400 → ValidTime (time_of_day n) × (second_of_day (time_of_day n) ≡ n)
time_of_day_lem = time_of

-- The closed formula that the code works by is the walk's inverse,
pub formula_of_the_walk : (n : ℤ) → day_number (walk n) ≡ n
formula_of_the_walk = day_walk

-- both ways,
pub walk_of_the_formula : (d : Date) → Valid d → walk (day_number d) ≡ d
walk_of_the_formula = walk_day

-- and so are the seconds of a moment.
pub seconds_of_a_moment : (z : ℤ) → seconds_of (moment_at z) ≡ z
seconds_of_a_moment = seconds_moment

pub moment_of_the_seconds : (m : Moment) → Valid m.date → ValidTime m.time → moment_at (seconds_of m) ≡ m
moment_of_the_seconds = moment_seconds

-- ---- What is printed
module _ (secs : ℤ) (nanos : ℕ) (epoch : ℤ) (precision : Option ℕ) where
  -- The text of a count is that of the date reached by walking the whole days of seconds plus epoch,
  pub prints_the_walk : time_text secs nanos epoch precision
      ≡ text (instant (record { date = walk (floor_div 86400 (secs +ℤ epoch)); time = time_of_day (floor_mod 86400 (secs +ℤ epoch)) }) nanos) precision
  unfolding time_text moment_at
  prints_the_walk = refl

  -- and where there is room, that text is what is written, and the answer is its length.
  pub writes_the_text : (line : List ℕ) (at : ℕ) → nanos < 1000000000 → at + length (time_text secs nanos epoch precision) ≤ length line
      → displayed secs nanos epoch precision line at
      ≡ (gives (length (time_text secs nanos epoch precision)), take at line ++ time_text secs nanos epoch precision ++ drop (at + length (time_text secs nanos epoch precision)) line)
  writes_the_text = printed secs nanos epoch precision
