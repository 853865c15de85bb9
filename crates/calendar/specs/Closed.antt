-- The day number of a date in closed form. It is to be believed only for being the walk's: proofs/Walk.antt shows that it
-- inverts the walk, both ways.
use Rattle.std.specs.Prelude.{◌≡◌, Bool, true, false, List, [], ◌∷◌, ℕ, zero, suc, ◌+◌, ◌-◌, ◌<◌, ℤ, pos, ◌+ℤ◌, ◌-ℤ◌, ◌*ℤ◌}
use Rattle.integers.specs.Integers.{floor_div}
use Rattle.calendar.specs.declared.Date.{Date}
use Rattle.calendar.specs.Walk.{is_leap, month_row, Valid, date}

unfoldable pub year_length : Bool → ℕ
year_length true = 366
year_length false = 365

-- the leap years from year 0 up to year y, below 0 before it
unfoldable pub leap_years : ℤ → ℤ
leap_years y = floor_div 4 (y +ℤ pos 3) -ℤ floor_div 100 (y +ℤ pos 99) +ℤ floor_div 400 (y +ℤ pos 399)

-- the days from the first day of year 0 to that of year y
unfoldable pub year_start : ℤ → ℤ
year_start y = y *ℤ pos 365 +ℤ leap_years y

-- the sum of the first n numbers of a row
unfoldable pub sum_to : List ℕ → ℕ → ℕ
sum_to row zero = 0
sum_to [] (suc n) = 0
sum_to (x ∷ row) (suc n) = x + sum_to row n

-- the day of the year, from 0
unfoldable pub day_of_year : Date → ℕ
day_of_year d = sum_to (month_row (is_leap d.year)) (d.month - 1) + (d.day - 1)

-- the day that the walk reaches the date on
unfoldable pub day_number : Date → ℤ
day_number d = year_start d.year +ℤ pos (day_of_year d) -ℤ pos 719528

-- day n of a 400-year cycle that starts with year 0 is day d, from 0, of year y
pub record InCycle (n y d : ℕ) : Type 0 where
  pub year_to : y < 400
  pub is : year_start (pos y) +ℤ pos d ≡ pos n
  pub day_to : d < year_length (is_leap (pos y))

-- day n, from 0, of a year is day d of month m
pub record InYear (year : ℤ) (n m d : ℕ) : Type 0 where
  pub valid : Valid (date year m d)
  pub is : day_of_year (date year m d) ≡ n
