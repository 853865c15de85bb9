-- No two refusals have the same number and values, so that what is said of a refusal names it.
use mathlib.Core.Path.{◌≡◌, refl, sym, ap, ◌∙◌}
use mathlib.Core.Bool.{cond}
use Prim.Native.Nat.{ℕ}
use lib.Dec.{eqb}
use lib.IntN.{pos, nat_abs}
use lib.ListN.{get_or}
use Rattle.errors.specs.Refusals.{Refusal, Outcome, gives, refuses, refuses_in_range_error, of_date_time, of_parse, of_count, of_print}
use Rattle.errors.specs.declared.DateTimeError.{DateTimeError}
use Rattle.errors.specs.declared.DateTimeError.TheVariants.{InvalidMonth, InvalidDayOfMonth, InvalidHour, InvalidMinute, InvalidSecond, InvalidNanosecond, OutOfRange}
use Rattle.errors.specs.declared.ParseDateTimeError.{ParseDateTimeError}
use Rattle.errors.specs.declared.ParseDateTimeError.TheVariants.{MissingField, InvalidFieldWidth, InvalidFieldValue, RangeError}
use Rattle.errors.specs.declared.CountError.{CountError}
use Rattle.errors.specs.declared.CountError.TheVariants as Count
use Rattle.errors.specs.declared.PrintError.{PrintError}
use Rattle.errors.specs.declared.PrintError.TheVariants as Print

-- each is read back from its number and values
value : Refusal → ℕ
value r = nat_abs (get_or r.values 0 (pos 0))

abbrev numbered : {A : Type 0} → ℕ → Refusal → A → A → A
numbered n r a other = cond (eqb r.number n) a other

date_time : Refusal → DateTimeError
date_time r =
    numbered 0 r (InvalidMonth (value r))
    (numbered 1 r (InvalidDayOfMonth (value r))
    (numbered 2 r (InvalidHour (value r))
    (numbered 3 r (InvalidMinute (value r))
    (numbered 4 r (InvalidSecond (value r)) (numbered 5 r (InvalidNanosecond (value r)) OutOfRange)))))

date_time_back : (e : DateTimeError) → date_time (of_date_time e) ≡ e
unfolding date_time value
date_time_back (InvalidMonth month) = refl
date_time_back (InvalidDayOfMonth day) = refl
date_time_back (InvalidHour hour) = refl
date_time_back (InvalidMinute min) = refl
date_time_back (InvalidSecond sec) = refl
date_time_back (InvalidNanosecond nano) = refl
date_time_back OutOfRange = refl

parse : {A : Type 0} → Outcome A → ParseDateTimeError
parse (gives x) = MissingField
parse (refuses r) = numbered 7 r MissingField (numbered 8 r InvalidFieldWidth InvalidFieldValue)
parse (refuses_in_range_error r) = RangeError (date_time r)

parse_back : (A : Type 0) (e : ParseDateTimeError) → parse (of_parse {A = A} e) ≡ e
unfolding parse
parse_back A MissingField = refl
parse_back A InvalidFieldWidth = refl
parse_back A InvalidFieldValue = refl
parse_back A (RangeError e) = ap RangeError (date_time_back e)

count : Refusal → CountError
count r = numbered 10 r Count.NotRepresentable Count.BadNanos

count_back : (e : CountError) → count (of_count e) ≡ e
unfolding count
count_back Count.NotRepresentable = refl
count_back Count.BadNanos = refl

print : Refusal → PrintError
print r = numbered 11 r Print.BadNanos (numbered 12 r Print.StartOutside (Print.NoRoom (value r)))

print_back : (e : PrintError) → print (of_print e) ≡ e
unfolding print value
print_back Print.BadNanos = refl
print_back Print.StartOutside = refl
print_back (Print.NoRoom wanted) = refl

-- ONE TO ONE
back_one : {A B : Type 0} (f : A → B) (g : B → A) → ((x : A) → g (f x) ≡ x) → (a b : A) → f a ≡ f b → a ≡ b
back_one f g h a b e = sym (h a) ∙ ap g e ∙ h b

pub date_time_one : (a b : DateTimeError) → of_date_time a ≡ of_date_time b → a ≡ b
date_time_one = back_one of_date_time date_time date_time_back

pub parse_one : (A : Type 0) (a b : ParseDateTimeError) → of_parse {A = A} a ≡ of_parse {A = A} b → a ≡ b
parse_one A = back_one (of_parse {A = A}) parse (parse_back A)

pub count_one : (a b : CountError) → of_count a ≡ of_count b → a ≡ b
count_one = back_one of_count count count_back

pub print_one : (a b : PrintError) → of_print a ≡ of_print b → a ≡ b
print_one = back_one of_print print print_back
