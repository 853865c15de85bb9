-- The calendar: from a day to the next and back, by month lengths alone. ISO 8601, proleptic Gregorian with a year 0;
-- RFC 3339, section 5.7 for the month lengths and appendix C for leap years. Nothing else is to be believed.
use Rattle.std.specs.Prelude.{◌≡◌, Bool, true, false, not, cond, ◌&&◌, ◌||◌, List, [], ◌∷◌, ℕ, zero, suc, ◌+◌, ◌-◌, ◌%◌, ◌≤◌, ◌<◌, eqb, ltb, ℤ, pos, negsuc, nat_abs, get_or, ◌<ℤ◌}
use Rattle.std.proofs.Math.IntN.{suc_ℤ, pred_ℤ}
use Rattle.calendar.specs.declared.Date.{Date}

unfoldable pub divides : ℕ → ℤ → Bool
divides k y = eqb (nat_abs y % k) 0

-- a year is leap if 4 divides it and either 100 does not or 400 does; so year 0 is leap
unfoldable pub is_leap : ℤ → Bool
is_leap y = divides 4 y && (not (divides 100 y) || divides 400 y)

-- the lengths of the twelve months, in a common year and in a leap year
unfoldable pub month_row : Bool → List ℕ
month_row false = 31 ∷ 28 ∷ 31 ∷ 30 ∷ 31 ∷ 30 ∷ 31 ∷ 31 ∷ 30 ∷ 31 ∷ 30 ∷ 31 ∷ []
month_row true = 31 ∷ 29 ∷ 31 ∷ 30 ∷ 31 ∷ 30 ∷ 31 ∷ 31 ∷ 30 ∷ 31 ∷ 30 ∷ 31 ∷ []

unfoldable pub month_length : ℤ → ℕ → ℕ
month_length year month = get_or (month_row (is_leap year)) (month - 1) 0

abbrev pub date : ℤ → ℕ → ℕ → Date
date year month day = record { year = year; month = month; day = day }

-- a date that exists
pub record Valid (d : Date) : Type 0 where
  pub month_from : 1 ≤ d.month
  pub month_to : d.month ≤ 12
  pub day_from : 1 ≤ d.day
  pub day_to : d.day ≤ month_length d.year d.month

-- the day after, and the day before
unfoldable pub next : Date → Date
next d =
    cond (ltb d.day (month_length d.year d.month))
    (date d.year d.month (d.day + 1))
    (cond (ltb d.month 12) (date d.year (d.month + 1) 1) (date (suc_ℤ d.year) 1 1))

unfoldable pub prev : Date → Date
prev d =
    cond (ltb 1 d.day)
    (date d.year d.month (d.day - 1))
    (cond (ltb 1 d.month)
    (date d.year (d.month - 1) (month_length d.year (d.month - 1)))
    (date (pred_ℤ d.year) 12 (month_length (pred_ℤ d.year) 12)))

-- the walk starts here
unfoldable pub start : Date
start = date (pos 1970) 1 1

-- the date of day n: n steps forward, or -n steps back
unfoldable pub walk : ℤ → Date
walk (pos zero) = start
walk (pos (suc n)) = next (walk (pos n))
walk (negsuc zero) = prev start
walk (negsuc (suc n)) = prev (walk (negsuc n))

-- an earlier date: by year, then by month, then by day
pub data Earlier (d e : Date) : Type 0 where
  by_year : d.year <ℤ e.year → Earlier d e
  by_month : d.year ≡ e.year → d.month < e.month → Earlier d e
  by_day : d.year ≡ e.year → d.month ≡ e.month → d.day < e.day → Earlier d e
