-- A text error is the text's own: what was not read whole asks no rule of dates.
use mathlib.Core.Path.{◌≡◌, refl, ap}
use mathlib.Core.Bool.{Bool, true, false, cond}
use mathlib.Core.List.{List, []}
use Prim.Native.Nat.{ℕ}
use native.Mathlib.Omega.{arith}
use lib.Dec.{ltb, leb, eqb}
use lib.IntN.{ℤ}
use lib.ListN.{length}
use Rattle.errors.specs.Refusals.{Refusal, Outcome, gives, refuses, refuses_in_range_error, of_parse}
use Rattle.errors.specs.declared.ParseDateTimeError.{ParseDateTimeError}
use Rattle.errors.specs.declared.ParseDateTimeError.TheVariants.{MissingField, InvalidFieldWidth, InvalidFieldValue, RangeError}
use Rattle.counts.specs.Counts.{from_date_time}
use Rattle.decimals.specs.Numbers.{begins_with, all_digits, number, on_number}
use Rattle.fields.specs.Fields.{unless, width, before, delimited, behind, two_digits, nanoseconds, fraction, with_fraction, seconds}
use Rattle.stages.specs.Text.{Parsed, on_field, field, on_seconds, from_month, with_sign, from_year, without_sign, parsed}
use Rattle.reader.specs.Stamp.{inside_range_error, stamped, read_text}
use Rattle.std.specs.Prelude.{Option, Some, None, Result, Ok, Err}
use Rattle.fields.specs.declared.Delimiter.{Delimiter}
use Rattle.fields.specs.declared.Delimiter.TheVariants.{Hyphen, Point}
use Rattle.fields.specs.declared.Field.{Field}
use Rattle.fields.specs.declared.Seconds.{Seconds}
use Rattle.dates.specs.declared.DateTime.{DateTime}
use Rattle.demands.specs.Refused.{OnlyRefuses, within_range_error}
use Rattle.demands.proofs.RefusalsOf.{dates}
use Rattle.demands.proofs.EntriesRefuse.{from_date_only}

-- 7, 8 or 9
abbrev OwnError : ParseDateTimeError → Type 0
OwnError MissingField = Unit {0}
OwnError InvalidFieldWidth = Unit {0}
OwnError InvalidFieldValue = Unit {0}
OwnError (RangeError e) = ⊥

abbrev Own : {A : Type 0} → Result A ParseDateTimeError → Type 0
Own (Ok x) = Unit {0}
Own (Err e) = OwnError e

-- ---- by cases of a test, and of a number
unless_own : {A : Type 0} (P : A → Type 0) (b : Bool) (x y : A) → P x → P y → P (unless b x y)
unless_own P true x y p q = q
unless_own P false x y p q = p

number_own : {A : Type 0} (P : A → Type 0) (n : Option ℕ) (x : A) (f : ℕ → A) → P x → ((v : ℕ) → P (f v)) → P (on_number n x f)
number_own P (Some v) x f p q = q v
number_own P None x f p q = p

-- ---- the stages
two_own : (d : Delimiter) (s : List ℕ) → Own (two_digits d s)
unfolding two_digits
two_own d s =
    unless_own Own (eqb (width d s) 2) (Err InvalidFieldWidth) _ tt
    (number_own Own (number 99 (before d s)) (Err InvalidFieldValue) (λ v. Ok (cond (delimited d s) (Field.Got v) (Field.Last v))) tt λ v. tt)

fraction_own : (sec : ℕ) (s : List ℕ) → Own (fraction sec s)
unfolding fraction
fraction_own sec s =
    unless_own Own (ltb 0 (length s)) (Err MissingField) _ tt
    (unless_own Own (all_digits s) (Err InvalidFieldValue) (Ok (record { sec = sec; nano = nanoseconds s })) tt tt)

with_own : (f : Result Field ParseDateTimeError) (s : List ℕ) → Own f → Own (with_fraction f s)
with_own (Ok (Field.Got v)) s h = fraction_own v s
with_own (Ok (Field.Last v)) s h = tt
with_own (Err e) s h = h

seconds_own : (s : List ℕ) → Own (seconds s)
unfolding seconds
seconds_own s = with_own (two_digits Point s) (behind Point s) (two_own Point s)

on_field_own : (f : Result Field ParseDateTimeError) (next : ℕ → Parsed) → Own f → ((v : ℕ) → Own (next v)) → Own (on_field f next)
on_field_own (Ok (Field.Got v)) next h k = k v
on_field_own (Ok (Field.Last v)) next h k = tt
on_field_own (Err e) next h k = h

field_own : (d : Delimiter) (s : List ℕ) (next : ℕ → List ℕ → Parsed) → ((v : ℕ) (s : List ℕ) → Own (next v s)) → Own (field d s next)
unfolding field
field_own d s next h = on_field_own (two_digits d s) (λ v. next v (behind d s)) (two_own d s) (λ v. h v (behind d s))

on_seconds_own : (x : Result Seconds ParseDateTimeError) (next : ℕ → ℕ → Parsed) → Own x → ((a b : ℕ) → Own (next a b)) → Own (on_seconds x next)
on_seconds_own (Ok x) next h k = k x.sec x.nano
on_seconds_own (Err e) next h k = h

from_month_own : (year : ℤ) (s : List ℕ) → Own (from_month year s)
unfolding from_month
from_month_own year s =
    field_own _ s _ λ month s.
    field_own _ s _ λ day s.
    field_own _ s _ λ hour s.
    field_own _ s _ λ min s.
    on_seconds_own (seconds s) _ (seconds_own s) λ sec nano.
    tt

pub parsed_own : (limit : ℕ) (text : List ℕ) → Own (parsed limit text)
unfolding parsed from_year
parsed_own limit text =
    let s = without_sign text in
    unless_own Own (delimited Hyphen s) (Err MissingField) _ tt
    (unless_own Own (leb 4 (width Hyphen s)) (Err InvalidFieldWidth) _ tt
    (number_own Own (number limit (before Hyphen s)) (Err InvalidFieldValue) (λ size. from_month (with_sign (begins_with 45 text) size) (behind Hyphen s)) tt
    λ v. from_month_own (with_sign (begins_with 45 text) v) (behind Hyphen s)))

-- WHAT READING ANSWERS, BY WHETHER THE TEXT WAS READ WHOLE
module _ (limit : ℕ) (epoch : ℤ) (text : List ℕ) where
  pub text_refused : {e : ParseDateTimeError} → parsed limit text ≡ Err e → read_text limit epoch text ≡ of_parse e
  unfolding read_text
  text_refused h = ap (stamped epoch) h

  -- a RangeError tells that the whole text was read
  pub read_whole : {r : Refusal} → read_text limit epoch text ≡ refuses_in_range_error r
      → (f : DateTime) × (parsed limit text ≡ Ok f) × (from_date_time epoch f.year f.month f.day f.hour f.min f.sec f.nano ≡ refuses r)
  unfolding read_text
  read_whole {r} h = go (parsed limit text) refl (parsed_own limit text) h
    where
      inner : (o : Outcome (ℤ × ℕ)) → OnlyRefuses dates [] o → inside_range_error o ≡ refuses_in_range_error r → o ≡ refuses r
      inner (gives x) t e = let z : ◌≡◌ {A = ℕ} 0 1 = cc in absurd (omega arith)
      inner (refuses q) t e = let z : q ≡ r = cc in ap refuses z
      inner (refuses_in_range_error q) (within_range_error t) e = absurd t

      own : (e : ParseDateTimeError) → OwnError e → of_parse {A = ℤ × ℕ} e ≡ refuses_in_range_error r → ⊥
      own MissingField t e = let z : ◌≡◌ {A = ℕ} 0 1 = cc in omega arith
      own InvalidFieldWidth t e = let z : ◌≡◌ {A = ℕ} 0 1 = cc in omega arith
      own InvalidFieldValue t e = let z : ◌≡◌ {A = ℕ} 0 1 = cc in omega arith
      own (RangeError d) t e = t

      go : (p : Parsed) → parsed limit text ≡ p → Own p → stamped epoch p ≡ refuses_in_range_error r
          → (f : DateTime) × (parsed limit text ≡ Ok f) × (from_date_time epoch f.year f.month f.day f.hour f.min f.sec f.nano ≡ refuses r)
      go (Ok f) e t i = (f, e, inner _ (from_date_only epoch f.year f.month f.day f.hour f.min f.sec f.nano) i)
      go (Err x) e t i = absurd (own x t i)
