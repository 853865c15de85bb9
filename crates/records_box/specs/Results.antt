-- How an outcome crosses to C and Rust: the refusal's number, or -1 where there is none, and beside it what is given.
use Rattle.std.specs.Prelude.{Option, Some, None, List, ℕ, zero, suc, ℤ, pos, negsuc, nat_abs, get_or}
use Rattle.errors.specs.Refusals.{Refusal, Outcome, gives, refuses, refuses_in_range_error}
use Rattle.std.specs.declared.cmp.Ordering.{Ordering}
use Rattle.std.specs.declared.cmp.Ordering.TheVariants.{Less, Equal, Greater}
use Rattle.moments.specs.declared.Moment.{Moment}
use Rattle.records_box.specs.declared.TimeResult.{TimeResult}
use Rattle.records_box.specs.declared.UnixResult.{UnixResult}
use Rattle.records_box.specs.declared.DurationResult.{DurationResult}
use Rattle.records_box.specs.declared.OrderingResult.{OrderingResult}
use Rattle.records_box.specs.declared.LengthResult.{LengthResult}
use Rattle.records_box.specs.declared.MomentResult.{MomentResult}

-- the refusal's number, or -1
abbrev pub number_or : {A : Type 0} → Outcome A → ℤ
number_or (gives x) = negsuc 0
number_or (refuses r) = pos r.number
number_or (refuses_in_range_error r) = pos r.number

-- what is given, and of a refusal the zero of its kind
abbrev pub given_or : {A : Type 0} → A → Outcome A → A
given_or none (gives x) = x
given_or none (refuses r) = none
given_or none (refuses_in_range_error r) = none

-- the refusal's first value, 0 where it has none
abbrev pub first_value : Refusal → ℕ
first_value r = nat_abs (get_or r.values 0 (pos 0))

-- the value of a refusal, 0 where there is none
abbrev pub value_of : {A : Type 0} → Outcome A → ℕ
value_of (gives x) = 0
value_of (refuses r) = first_value r
value_of (refuses_in_range_error r) = first_value r

-- 1 where a text's date was refused
abbrev pub range_error_flag : {A : Type 0} → Outcome A → ℤ
range_error_flag (gives x) = pos 0
range_error_flag (refuses r) = pos 0
range_error_flag (refuses_in_range_error r) = pos 1

abbrev pub time_result : Outcome (ℤ × ℕ) → TimeResult
time_result o =
    record { refusal = number_or o; in_range_error = range_error_flag o; value = value_of o; nanos = (given_or (pos 0, 0) o).1; secs = (given_or (pos 0, 0) o).0 }

abbrev pub unix_result : Outcome ℤ → UnixResult
unix_result o = record { refusal = number_or o; secs = given_or (pos 0) o }

abbrev pub duration_result : Outcome (ℕ × ℕ) → DurationResult
duration_result o = record { refusal = number_or o; nanos = (given_or (0, 0) o).1; secs = (given_or (0, 0) o).0 }

-- -1, 0 or 1: the first is earlier, the same, or later
abbrev pub sign : Ordering → ℤ
sign Less = negsuc 0
sign Equal = pos 0
sign Greater = pos 1

abbrev pub ordering_result : Outcome Ordering → OrderingResult
ordering_result o = record { refusal = number_or o; ordering = sign (given_or Equal o) }

-- the value of printing's refusals is the length that is wanted
abbrev pub length_result : Outcome ℕ → LengthResult
length_result o = record { refusal = number_or o; wanted = value_of o; length = given_or 0 o }

abbrev pub moment_result : Moment → MomentResult
moment_result m =
    record { year = m.date.year; month = m.date.month; day = m.date.day; hour = m.time.hour; minute = m.time.minute; second = m.time.second }

-- a precision is absent where the flag is 0
abbrev pub precision_of : ℤ → ℕ → Option ℕ
precision_of (pos zero) digits = None
precision_of (pos (suc n)) digits = Some digits
precision_of (negsuc n) digits = Some digits

-- what printing answers, beside the line as it is then
abbrev pub line_result : Outcome ℕ × List ℕ → LengthResult × List ℕ
line_result r = (length_result r.0, r.1)
