-- Demand 1, in its order of checks: 7, 8 and 9 within a text, from its front on.
use mathlib.Core.Path.{◌≡◌, ap, ◌∙◌}
use mathlib.Core.Bool.{true, false}
use mathlib.Core.List.{List, []}
use Prim.Native.Nat.{ℕ, ◌<◌, ◌≤◌}
use lib.IntN.{ℤ}
use lib.ListN.{length}
use borrow.Author.Tests.{ne_eqb, eq-eqb, le-leb, lt-leb, lt-ltb}
use Rattle.errors.specs.Refusals.{refuses, refusal, of_parse}
use Rattle.errors.specs.declared.ParseDateTimeError.{ParseDateTimeError}
use Rattle.errors.specs.declared.ParseDateTimeError.TheVariants.{MissingField, InvalidFieldWidth, InvalidFieldValue}
use Rattle.decimals.specs.Numbers.{begins_with, all_digits, number}
use Rattle.std.specs.Prelude.{Result, Some, None, Ok, Err}
use Rattle.fields.specs.Fields.{width, before, delimited, behind, two_digits, nanoseconds, fraction, seconds}
use Rattle.fields.specs.declared.Delimiter.{Delimiter}
use Rattle.fields.specs.declared.Delimiter.TheVariants.{Hyphen, SpaceOrT, Colon, Point}
use Rattle.fields.specs.declared.Field.{Field}
use Rattle.stages.specs.Text.{Parsed, on_field, field, from_month, with_sign, from_year, without_sign, parsed}
use Rattle.reader.specs.Stamp.{read_text}
use Rattle.demands.proofs.TextFirst.{text_refused}

-- a field that is refused with e, or has no delimiter behind it, which is 7
abbrev Stops : Result Field ParseDateTimeError → ParseDateTimeError → Type 0
Stops (Ok (Field.Got v)) e = ⊥
Stops (Ok (Field.Last v)) e = MissingField ≡ e
Stops (Err r) e = r ≡ e

stops : (f : Result Field ParseDateTimeError) {e : ParseDateTimeError} (next : ℕ → Parsed) → Stops f e → on_field f next ≡ Err e
stops (Ok (Field.Got v)) next t = absurd t
stops (Ok (Field.Last v)) next t = ap Err t
stops (Err r) next t = ap Err t

module _ (limit : ℕ) (epoch : ℤ) (text : List ℕ) where
  -- No `-` behind the outer sign is 7, whatever stands there;
  pub no_hyphen_is_7 : delimited Hyphen (without_sign text) ≡ false → read_text limit epoch text ≡ refuses (refusal 7 [])
  unfolding parsed from_year
  no_hyphen_is_7 h = text_refused limit epoch text {e = MissingField} (rw h)

  module _ (d : delimited Hyphen (without_sign text) ≡ true) where
    -- with it, a year of fewer than four bytes is 8;
    pub short_year_is_8 : width Hyphen (without_sign text) < 4 → read_text limit epoch text ≡ refuses (refusal 8 [])
    unfolding parsed from_year
    short_year_is_8 h = text_refused limit epoch text {e = InvalidFieldWidth} (rw (d, lt-leb 4 (width Hyphen (without_sign text)) h))

    -- then one that is no number, or above the limit, is 9;
    pub bad_year_is_9 : 4 ≤ width Hyphen (without_sign text) → number limit (before Hyphen (without_sign text)) ≡ None → read_text limit epoch text ≡ refuses (refusal 9 [])
    unfolding parsed from_year
    bad_year_is_9 h b = text_refused limit epoch text {e = InvalidFieldValue} (rw (d, le-leb 4 (width Hyphen (without_sign text)) h, b))

    -- and behind a good one the rest decides.
    pub good_year_goes_on : {size : ℕ} → 4 ≤ width Hyphen (without_sign text) → number limit (before Hyphen (without_sign text)) ≡ Some size
        → parsed limit text ≡ from_month (with_sign (begins_with 45 text) size) (behind Hyphen (without_sign text))
    unfolding parsed from_year
    good_year_goes_on h v = rw (d, le-leb 4 (width Hyphen (without_sign text)) h, v)

-- Month, day, hour and minute, each at the front of the rest and up to its delimiter:
module _ (d : Delimiter) (s : List ℕ) (next : ℕ → List ℕ → Parsed) where
  -- not two bytes is 8,
  pub wrong_width_is_8 : (width d s ≡ 2 → ⊥) → field d s next ≡ Err InvalidFieldWidth
  unfolding field two_digits
  wrong_width_is_8 h = rw (ne_eqb (width d s) 2 h)

  module _ (w : width d s ≡ 2) where
    -- then no number is 9,
    pub bad_field_is_9 : number 99 (before d s) ≡ None → field d s next ≡ Err InvalidFieldValue
    unfolding field two_digits
    bad_field_is_9 b = rw (eq-eqb (width d s) 2 w, b)

    -- then no delimiter is 7,
    pub no_delimiter_is_7 : {v : ℕ} → number 99 (before d s) ≡ Some v → delimited d s ≡ false → field d s next ≡ Err MissingField
    unfolding field two_digits
    no_delimiter_is_7 n h = rw (eq-eqb (width d s) 2 w, n, h)

    -- and behind a good one the rest decides.
    pub good_field_goes_on : {v : ℕ} → number 99 (before d s) ≡ Some v → delimited d s ≡ true → field d s next ≡ next v (behind d s)
    unfolding field two_digits
    good_field_goes_on n h = rw (eq-eqb (width d s) 2 w, n, h)

-- The seconds, up to a point or the text's end:
module _ (s : List ℕ) where
  -- not two bytes is 8,
  pub seconds_of_wrong_width_are_8 : (width Point s ≡ 2 → ⊥) → seconds s ≡ Err InvalidFieldWidth
  unfolding seconds two_digits
  seconds_of_wrong_width_are_8 h = rw (ne_eqb (width Point s) 2 h)

  module _ (w : width Point s ≡ 2) where
    -- then no number is 9,
    pub bad_seconds_are_9 : number 99 (before Point s) ≡ None → seconds s ≡ Err InvalidFieldValue
    unfolding seconds two_digits
    bad_seconds_are_9 b = rw (eq-eqb (width Point s) 2 w, b)

    module _ {v : ℕ} (n : number 99 (before Point s) ≡ Some v) where
      -- no point ends the text,
      pub whole_seconds_end : delimited Point s ≡ false → seconds s ≡ Ok (record { sec = v; nano = 0 })
      unfolding seconds two_digits
      whole_seconds_end p = rw (eq-eqb (width Point s) 2 w, n, p)

      module _ (p : delimited Point s ≡ true) where
        -- nothing behind one is 7,
        pub no_fraction_is_7 : behind Point s ≡ [] → seconds s ≡ Err MissingField
        unfolding seconds two_digits fraction
        no_fraction_is_7 e = rw (eq-eqb (width Point s) 2 w, n, p, e)

        module _ (l : 0 < length (behind Point s)) where
          -- there anything but digits is 9,
          pub bad_fraction_is_9 : all_digits (behind Point s) ≡ false → seconds s ≡ Err InvalidFieldValue
          unfolding seconds two_digits fraction
          bad_fraction_is_9 b = rw (eq-eqb (width Point s) 2 w, n, p, lt-ltb 0 (length (behind Point s)) l, b)

          -- and digits are the fraction.
          pub good_fraction_ends : all_digits (behind Point s) ≡ true → seconds s ≡ Ok (record { sec = v; nano = nanoseconds (behind Point s) })
          unfolding seconds two_digits fraction
          good_fraction_ends b = rw (eq-eqb (width Point s) 2 w, n, p, lt-ltb 0 (length (behind Point s)) l, b)

-- The first stage that refuses is the answer to the whole text, whatever follows: behind a good year
module _ (limit : ℕ) (epoch : ℤ) (text : List ℕ) {size : ℕ} (d : delimited Hyphen (without_sign text) ≡ true)
    (h : 4 ≤ width Hyphen (without_sign text)) (v : number limit (before Hyphen (without_sign text)) ≡ Some size) where
  pub the_rest_answers : {e : ParseDateTimeError} → from_month (with_sign (begins_with 45 text) size) (behind Hyphen (without_sign text)) ≡ Err e → read_text limit epoch text ≡ of_parse e
  the_rest_answers r = text_refused limit epoch text (good_year_goes_on limit epoch text d h v ∙ r)

-- the month, the day, the hour, the minute and the seconds, each where those before it are good and have their delimiters.
module _ (year : ℤ) (s : List ℕ) {e : ParseDateTimeError} where
  pub month_answers : Stops (two_digits Hyphen s) e → from_month year s ≡ Err e
  unfolding from_month field
  month_answers t = stops (two_digits Hyphen s) _ t

  module _ {month : ℕ} (m : two_digits Hyphen s ≡ Ok (Field.Got month)) where
    pub day_answers : Stops (two_digits SpaceOrT (behind Hyphen s)) e → from_month year s ≡ Err e
    unfolding from_month field
    day_answers t = rw m (stops (two_digits SpaceOrT (behind Hyphen s)) _ t)

    module _ {day : ℕ} (d : two_digits SpaceOrT (behind Hyphen s) ≡ Ok (Field.Got day)) where
      pub hour_answers : Stops (two_digits Colon (behind SpaceOrT (behind Hyphen s))) e → from_month year s ≡ Err e
      unfolding from_month field
      hour_answers t = rw (m, d) (stops (two_digits Colon (behind SpaceOrT (behind Hyphen s))) _ t)

      module _ {hour : ℕ} (h : two_digits Colon (behind SpaceOrT (behind Hyphen s)) ≡ Ok (Field.Got hour)) where
        pub minute_answers : Stops (two_digits Colon (behind Colon (behind SpaceOrT (behind Hyphen s)))) e → from_month year s ≡ Err e
        unfolding from_month field
        minute_answers t = rw (m, d, h) (stops (two_digits Colon (behind Colon (behind SpaceOrT (behind Hyphen s)))) _ t)

        pub seconds_answer : {min : ℕ} → two_digits Colon (behind Colon (behind SpaceOrT (behind Hyphen s))) ≡ Ok (Field.Got min)
            → seconds (behind Colon (behind Colon (behind SpaceOrT (behind Hyphen s)))) ≡ Err e → from_month year s ≡ Err e
        unfolding from_month field
        seconds_answer i t = rw (m, d, h, i, t)
