-- The numbers that entries refuse with, and what refuses with them.
use mathlib.Core.Bool.{Bool, true, false}
use mathlib.Core.List.{List, [], ◌∷◌}
use Prim.Native.Nat.{ℕ}
use lib.Dec.{T, ltb}
use lib.IntN.{ℤ, pos, negsuc}
use Rattle.integers.specs.Integers.{is_i64}
use Rattle.errors.specs.Refusals.{Refusal, refusal, Outcome, of_parse, check}
use Rattle.errors.specs.declared.DateTimeError.TheVariants.{InvalidMonth, InvalidDayOfMonth, InvalidHour, InvalidMinute, InvalidSecond, InvalidNanosecond, OutOfRange}
use Rattle.errors.specs.declared.ParseDateTimeError.{ParseDateTimeError}
use Rattle.errors.specs.declared.ParseDateTimeError.TheVariants.{MissingField, InvalidFieldWidth, InvalidFieldValue, RangeError}
use Rattle.counts.specs.Counts.{representable, good_nanos, duration_at}
use Rattle.demands.specs.Refused.{is_among, OnlyRefuses, a_value, a_refusal, within_range_error}

abbrev pub dates : List ℕ
dates = 0 ∷ 1 ∷ 2 ∷ 3 ∷ 4 ∷ 5 ∷ 6 ∷ []

abbrev pub sums : List ℕ
sums = 11 ∷ 10 ∷ []

abbrev pub texts : List ℕ
texts = 7 ∷ 8 ∷ 9 ∷ []

-- a check adds its refusal
pub at_check : {A : Type 0} {own inner : List ℕ} (b : Bool) (r : Refusal) (o : Outcome A) → T (is_among r.number own) → OnlyRefuses own inner o → OnlyRefuses own inner (check b r o)
at_check true r o t h = h
at_check false r o t h = a_refusal t

-- the two checks of counts
pub good : {A : Type 0} {numbers : List ℕ} (nanos : ℕ) (o : Outcome A) → OnlyRefuses (11 ∷ numbers) [] o → OnlyRefuses (11 ∷ numbers) [] (good_nanos nanos o)
good nanos o h = at_check (ltb nanos 1000000000) (refusal 11 []) o tt h

pub fit : {A : Type 0} (z : ℤ) (o : Outcome A) → OnlyRefuses sums [] o → OnlyRefuses sums [] (representable z o)
fit z o h = at_check (is_i64 z) (refusal 10 []) o tt h

-- the other refusals of sums, and those of texts
pub duration_only : (z : ℤ) → OnlyRefuses sums [] (duration_at z)
unfolding duration_at
duration_only (pos n) = a_value
duration_only (negsuc n) = a_refusal tt

pub parse_only : {A : Type 0} (e : ParseDateTimeError) → OnlyRefuses texts dates (of_parse {A = A} e)
parse_only MissingField = a_refusal tt
parse_only InvalidFieldWidth = a_refusal tt
parse_only InvalidFieldValue = a_refusal tt
parse_only (RangeError (InvalidMonth n)) = within_range_error tt
parse_only (RangeError (InvalidDayOfMonth n)) = within_range_error tt
parse_only (RangeError (InvalidHour n)) = within_range_error tt
parse_only (RangeError (InvalidMinute n)) = within_range_error tt
parse_only (RangeError (InvalidSecond n)) = within_range_error tt
parse_only (RangeError (InvalidNanosecond n)) = within_range_error tt
parse_only (RangeError OutOfRange) = within_range_error tt
