-- The whole text that is printed by default says the fields that were printed.
use mathlib.Core.Path.{◌≡◌, refl, ◌∙◌}
use mathlib.Core.Bool.{true, false}
use mathlib.Core.List.{List, ◌∷◌, ◌++◌, append_assoc}
use Prim.Native.Nat.{ℕ, suc, ◌^◌, ◌<◌, ◌≤◌}
use native.Mathlib.Omega.{arith}
use lib.IntN.{ℤ, pos, negsuc, nat_abs}
use borrow.Author.Tests.{le-ltb}
use Rattle.std.specs.Prelude.{None}
use Rattle.decimals.specs.Numbers.{begins_with}
use Rattle.fields.specs.Fields.{is_delimiter}
use Rattle.stages.specs.Text.{from_month, without_sign, parsed}
use Rattle.fields.specs.declared.Delimiter.TheVariants.{Hyphen, SpaceOrT, Colon}
use Rattle.dates.specs.declared.DateTime.{DateTime}
use Rattle.std.specs.Prelude.{Ok}
use Rattle.printer.specs.declared.Instant.{Instant}
use Rattle.digits.specs.Digits.{digits, width}
use Rattle.digits.proofs.Width.{width_least}
use Rattle.printed_parts.specs.Text.{year_text, trim, pointed, fraction_text}
use Rattle.printer.specs.Text.{fields_text, text}
use Rattle.demands.proofs.FractionBack.{nanoseconds_trim, trim_digits}
use Rattle.demands.proofs.FieldsBack.{field_back, seconds_back, year_back, no_sign, no_minus}

-- a stamp that can be printed in full
pub record Printable (limit : ℕ) (t : Instant) : Type 0 where
  pub year : nat_abs t.moment.date.year ≤ limit
  pub room : nat_abs t.moment.date.year < 10 ^ 20
  pub month : t.moment.date.month < 100
  pub day : t.moment.date.day < 100
  pub hour : t.moment.time.hour < 100
  pub minute : t.moment.time.minute < 100
  pub second : t.moment.time.second < 100
  pub nanos : t.nanos < 1000000000

-- the fields of a stamp, as a reader says them
abbrev pub fields_of : Instant → DateTime
fields_of t = record { year = t.moment.date.year; month = t.moment.date.month; day = t.moment.date.day; hour = t.moment.time.hour; min = t.moment.time.minute; sec = t.moment.time.second; nano = t.nanos }

-- ---- the delimiters that are printed
hyphen : is_delimiter Hyphen 45 ≡ true
unfolding is_delimiter
hyphen = refl

space : is_delimiter SpaceOrT 32 ≡ true
unfolding is_delimiter
space = refl

colon : is_delimiter Colon 58 ≡ true
unfolding is_delimiter
colon = refl

-- everything behind the hyphen of the year
abbrev after_year : Instant → List ℕ
after_year t =
    digits 2 t.moment.date.month ++ (45 ∷ (digits 2 t.moment.date.day ++ (32 ∷ (digits 2 t.moment.time.hour ++ (58 ∷ (digits 2 t.moment.time.minute ++ (58 ∷ (digits 2 t.moment.time.second ++ pointed (trim (digits 9 t.nanos))))))))))

fields_after : (t : Instant) → fields_text t ++ fraction_text None t.nanos ≡ 45 ∷ after_year t
unfolding fields_text fraction_text digits
fields_after t = refl

month_back : (limit : ℕ) (year : ℤ) (t : Instant) → Printable limit t → year ≡ t.moment.date.year → from_month year (after_year t) ≡ Ok (fields_of t)
unfolding from_month
month_back limit year t p e =
    field_back Hyphen t.moment.date.month p.month 45 _ _ hyphen
    ∙ field_back SpaceOrT t.moment.date.day p.day 32 _ _ space
    ∙ field_back Colon t.moment.time.hour p.hour 58 _ _ colon
    ∙ field_back Colon t.moment.time.minute p.minute 58 _ _ colon
    ∙ rw (seconds_back t.moment.time.second p.second (trim (digits 9 t.nanos)) t.nanos (trim_digits t.nanos) (nanoseconds_trim t.nanos p.nanos), e)

-- ---- the year, with its sign
year_bare : (n : ℕ) → year_text (pos n) ≡ digits (width n) n
unfolding year_text
year_bare n = rw (le-ltb n 0 (omega arith))

year_marked : (n : ℕ) → year_text (negsuc n) ≡ 45 ∷ digits (width (suc n)) (suc n)
unfolding year_text
year_marked n = refl

module _ (limit : ℕ) (r : List ℕ) where
  pub sign_back : (y : ℤ) → nat_abs y ≤ limit → nat_abs y < 10 ^ 20 → parsed limit (year_text y ++ (45 ∷ r)) ≡ from_month y r
  unfolding parsed begins_with without_sign
  sign_back (pos n) h k =
      let w = width_least n k in
      rw (year_bare n, no_sign limit (width n) n w.from w.room h (45 ∷ r), no_minus limit (width n) n w.from w.room h (45 ∷ r))
      (year_back limit (width n) n w.from w.room h r false)
  sign_back (negsuc n) h k =
      let w = width_least (suc n) k in
      rw year_marked (year_back limit (width (suc n)) (suc n) w.from w.room h r true)

-- THE TEXT READS BACK
pub text_back : (limit : ℕ) (t : Instant) → Printable limit t → parsed limit (text t None) ≡ Ok (fields_of t)
unfolding text
text_back limit t p =
    rw (append_assoc, fields_after t) (sign_back limit (after_year t) t.moment.date.year p.year p.room ∙ month_back limit t.moment.date.year t p refl)
