-- The rules on calendar fields: document 01's checks 0 to 5, in its order ("When the box says no").
use Rattle.std.specs.Prelude.{◌&&◌, ℕ, ltb, leb, ℤ}
use Rattle.errors.specs.Refusals.{Outcome, check, of_date_time}
use Rattle.errors.specs.declared.DateTimeError.TheVariants.{InvalidMonth, InvalidDayOfMonth, InvalidHour, InvalidMinute, InvalidSecond, InvalidNanosecond}
use Rattle.calendar.specs.Walk.{month_length}

-- 0 to 5 in order, and then the rest
abbrev pub fields_checked : ℤ → ℕ → ℕ → ℕ → ℕ → ℕ → ℕ → Outcome ℤ → Outcome ℤ
fields_checked year month day hour min sec nano rest =
    check (leb 1 month && leb month 12) (of_date_time (InvalidMonth month))
    (check (leb 1 day && leb day (month_length year month)) (of_date_time (InvalidDayOfMonth day))
    (check (leb hour 23) (of_date_time (InvalidHour hour))
    (check (leb min 59) (of_date_time (InvalidMinute min))
    (check (leb sec 59) (of_date_time (InvalidSecond sec))
    (check (ltb nano 1000000000) (of_date_time (InvalidNanosecond nano)) rest)))))
