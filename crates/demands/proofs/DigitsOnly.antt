-- Document 02, ask 3: a field is digits only, and behind the first byte of an accepted text there is no `+` (43).
use mathlib.Core.Path.{◌≡◌, refl, sym, ap, subst, ◌∙◌}
use mathlib.Core.Bool.{Bool, true, false, cond, ◌||◌, and-eq-true_iff}
use mathlib.Core.List.{List, [], ◌∷◌}
use mathlib.Core.Logic.{inl, inr, ⊎_elim}
use Prim.Native.Nat.{ℕ, zero, suc, ◌+◌, ◌-◌, ◌<◌, ◌≤◌}
use native.Mathlib.Omega.{arith}
use lib.Dec.{ltb, leb, eqb}
use lib.IntN.{ℤ}
use lib.ListN.{length, get_or, length-take, length-drop}
use lib.Seq.{get_or-take, get_or-drop, take_all}
use borrow.Author.Tests.{ltb-true, ltb-false}
use Rattle.std.proofs.lemmas.Bool.{false≢true}
use Rattle.integers.proofs.Signed.{Tri, before, same, after, tri}
use Rattle.errors.specs.Refusals.{gives, refuses, refusal, of_parse}
use Rattle.errors.specs.declared.ParseDateTimeError.{ParseDateTimeError}
use Rattle.errors.specs.declared.ParseDateTimeError.TheVariants.{MissingField, InvalidFieldWidth, InvalidFieldValue, RangeError}
use Rattle.errors.proofs.Outcomes.{refuses_not, inner_not}
use Rattle.decimals.specs.Numbers.{begins_with, is_digit, all_digits, number, on_number}
use Rattle.std.specs.Prelude.{Option, Some, None, Ok, Err}
use Rattle.decimals.proofs.Values.{is_digit_lem, bad_digit, number_all_digits}
use Rattle.fields.specs.Fields as Fields
use Rattle.fields.specs.Fields.{unless, is_delimiter, width, delimited, behind, two_digits, nanoseconds, fraction, with_fraction, seconds}
use Rattle.fields.specs.declared.Delimiter.{Delimiter}
use Rattle.fields.specs.declared.Delimiter.TheVariants.{Hyphen, SpaceOrT, Colon, Point}
use Rattle.fields.specs.declared.Field.{Field}
use Rattle.stages.specs.Text.{Parsed, on_field, field, on_seconds, from_month, with_sign, from_year, without_sign, parsed}
use Rattle.reader.specs.Stamp.{stamped, read_text}
use Rattle.demands.specs.Values.{DigitOrDelimiter}
use Rattle.demands.proofs.TextOrder.{bad_year_is_9, bad_field_is_9, bad_seconds_are_9}

-- Anything but digits in a field of the right width is 9: in the year behind its outer sign,
pub year_not_of_digits_is_9 : (limit : ℕ) (epoch : ℤ) (text : List ℕ) → delimited Hyphen (without_sign text) ≡ true → 4 ≤ width Hyphen (without_sign text)
    → all_digits (Fields.before Hyphen (without_sign text)) ≡ false → read_text limit epoch text ≡ refuses (refusal 9 [])
year_not_of_digits_is_9 limit epoch text d h e = bad_year_is_9 limit epoch text d h (sym (bad_digit limit _ e))

-- at the stage of the month, the day, the hour and the minute,
pub field_not_of_digits_is_9 : (d : Delimiter) (s : List ℕ) (next : ℕ → List ℕ → Parsed) → width d s ≡ 2 → all_digits (Fields.before d s) ≡ false → field d s next ≡ Err InvalidFieldValue
field_not_of_digits_is_9 d s next w e = bad_field_is_9 d s next w (sym (bad_digit 99 _ e))

-- and at that of the second; `TextOrder` has that the first stage which refuses is the answer.
pub seconds_not_of_digits_are_9 : (s : List ℕ) → width Point s ≡ 2 → all_digits (Fields.before Point s) ≡ false → seconds s ≡ Err InvalidFieldValue
seconds_not_of_digits_are_9 s w e = bad_seconds_are_9 s w (sym (bad_digit 99 _ e))

-- ---- bytes that are digits or delimiters
abbrev Plain : List ℕ → Type 0
Plain s = (place : ℕ) → place < length s → DigitOrDelimiter (get_or s place 0)

plain_digits : (s : List ℕ) → all_digits s ≡ true → Plain s
unfolding all_digits
plain_digits [] h place l = absurd (omega arith)
plain_digits (x ∷ s) h zero l = inl ((and-eq-true_iff (is_digit x) (all_digits s)).0 h).0
plain_digits (x ∷ s) h (suc place) l = plain_digits s ((and-eq-true_iff (is_digit x) (all_digits s)).0 h).1 place (omega arith)

-- a delimiter stands where a delimited field ends
at_width : (d : Delimiter) (s : List ℕ) → width d s < length s → is_delimiter d (get_or s (width d s) 0) ≡ true
unfolding width
at_width d [] h = absurd (omega arith)
at_width d (x ∷ s) h = go (is_delimiter d x) refl h (at_width d s)
  where
    go : (b : Bool) → is_delimiter d x ≡ b → cond b 0 (suc (width d s)) < suc (length s) → (width d s < length s → is_delimiter d (get_or s (width d s) 0) ≡ true)
        → is_delimiter d (get_or (x ∷ s) (cond b 0 (suc (width d s))) 0) ≡ true
    go true e l k = e
    go false e l k = k (omega arith)

-- ---- a field, and what follows it
module _ (limit : ℕ) (d : Delimiter) (s : List ℕ) {v : ℕ} (n : number limit (Fields.before d s) ≡ Some v) where
  plain_field : Plain (Fields.before d s)
  plain_field = plain_digits _ (number_all_digits limit (Fields.before d s) n)

  plain_end : delimited d s ≡ false → Plain s
  plain_end h = subst Plain (take_all (width d s) s (ltb-false (width d s) (length s) h)) plain_field

  rest_decides : delimited d s ≡ true → Plain (behind d s) → Plain s
  rest_decides h k place l = go (tri place (width d s))
    where
      w : width d s < length s
      w = ltb-true (width d s) (length s) h

      go : Tri (place < width d s) (place ≡ width d s) (width d s < place) → DigitOrDelimiter (get_or s place 0)
      go (before b) = subst DigitOrDelimiter (get_or-take (width d s) s place 0 b) (plain_field place (rw length-take (omega arith)))
      go (same q) = inr (d, rw q (at_width d s w))
      go (after b) =
          let i = place - (width d s + 1) in
          let q : width d s + 1 + i ≡ place = omega arith in
          subst DigitOrDelimiter (get_or-drop (width d s + 1) s i 0 ∙ ap (λ j. get_or s j 0) q) (k i (rw length-drop (omega arith)))

-- ---- what was read whole
abbrev IfRead : Type 0 → Parsed → Type 0
IfRead A (Ok f) = A
IfRead A (Err e) = Unit {0}

anyway : {A : Type 0} (p : Parsed) → A → IfRead A p
anyway (Ok f) x = x
anyway (Err e) x = tt

carried : {A B : Type 0} (p : Parsed) → (A → B) → IfRead A p → IfRead B p
carried (Ok f) k x = k x
carried (Err e) k x = tt

a_field : (d : Delimiter) (s : List ℕ) (next : ℕ → List ℕ → Parsed) → ((v : ℕ) (s : List ℕ) → IfRead (Plain s) (next v s)) → IfRead (Plain s) (field d s next)
unfolding field two_digits
a_field d s next k = go (eqb (width d s) 2) (number 99 (Fields.before d s)) (delimited d s) refl refl
  where
    go : (b : Bool) (n : Option ℕ) (c : Bool) → number 99 (Fields.before d s) ≡ n → delimited d s ≡ c
        → IfRead (Plain s) (on_field (unless b (Err InvalidFieldWidth) (on_number n (Err InvalidFieldValue) (λ v. Ok (cond c (Field.Got v) (Field.Last v))))) (λ v. next v (behind d s)))
    go false n c e h = tt
    go true None c e h = tt
    go true (Some v) false e h = tt
    go true (Some v) true e h = carried (next v (behind d s)) (rest_decides 99 d s e h) (k v (behind d s))

the_fraction : (s : List ℕ) (sec : ℕ) (next : ℕ → ℕ → Parsed) → IfRead (Plain s) (on_seconds (fraction sec s) next)
unfolding fraction
the_fraction s sec next = go (ltb 0 (length s)) (all_digits s) refl
  where
    go : (b c : Bool) → all_digits s ≡ c → IfRead (Plain s) (on_seconds (unless b (Err MissingField) (unless c (Err InvalidFieldValue) (Ok (record { sec = sec; nano = nanoseconds s })))) next)
    go false c e = tt
    go true false e = tt
    go true true e = anyway (next sec (nanoseconds s)) (plain_digits s e)

the_seconds : (s : List ℕ) (next : ℕ → ℕ → Parsed) → IfRead (Plain s) (on_seconds (seconds s) next)
unfolding seconds two_digits
the_seconds s next = go (eqb (width Point s) 2) (number 99 (Fields.before Point s)) (delimited Point s) refl refl
  where
    go : (b : Bool) (n : Option ℕ) (c : Bool) → number 99 (Fields.before Point s) ≡ n → delimited Point s ≡ c
        → IfRead (Plain s) (on_seconds (with_fraction (unless b (Err InvalidFieldWidth) (on_number n (Err InvalidFieldValue) (λ v. Ok (cond c (Field.Got v) (Field.Last v))))) (behind Point s)) next)
    go false n c e h = tt
    go true None c e h = tt
    go true (Some v) false e h = anyway (next v 0) (plain_end 99 Point s e h)
    go true (Some v) true e h = carried (on_seconds (fraction v (behind Point s)) next) (rest_decides 99 Point s e h) (the_fraction (behind Point s) v next)

behind_the_year : (year : ℤ) (s : List ℕ) → IfRead (Plain s) (from_month year s)
unfolding from_month
behind_the_year year s =
    a_field _ s _ λ month s.
    a_field _ s _ λ day s.
    a_field _ s _ λ hour s.
    a_field _ s _ λ min s.
    the_seconds s _

the_year : (limit : ℕ) (negative : Bool) (s : List ℕ) → IfRead (Plain s) (from_year limit negative s)
unfolding from_year
the_year limit negative s = go (delimited Hyphen s) (leb 4 (width Hyphen s)) (number limit (Fields.before Hyphen s)) refl refl
  where
    go : (c b : Bool) (n : Option ℕ) → delimited Hyphen s ≡ c → number limit (Fields.before Hyphen s) ≡ n
        → IfRead (Plain s) (unless c (Err MissingField) (unless b (Err InvalidFieldWidth) (on_number n (Err InvalidFieldValue) λ size. from_month (with_sign negative size) (behind Hyphen s))))
    go false b n h e = tt
    go true false n h e = tt
    go true true None h e = tt
    go true true (Some v) h e = carried (from_month (with_sign negative v) (behind Hyphen s)) (rest_decides limit Hyphen s e h) (behind_the_year (with_sign negative v) (behind Hyphen s))

-- the outer sign is at most the first byte
behind_the_sign : (text : List ℕ) (place : ℕ) → Plain (without_sign text) → suc place < length text → DigitOrDelimiter (get_or text (suc place) 0)
unfolding without_sign
behind_the_sign [] place k l = absurd (omega arith)
behind_the_sign (x ∷ s) place k l = go (begins_with 43 (x ∷ s) || begins_with 45 (x ∷ s)) k
  where
    go : (b : Bool) → Plain (cond b s (x ∷ s)) → DigitOrDelimiter (get_or s place 0)
    go true k = k place (omega arith)
    go false k = k (suc place) l

-- ---- a `+`
plus_is_no_digit : is_digit 43 ≡ true → ⊥
plus_is_no_digit h = omega (arith, (is_digit_lem h).low)

plus_is_no_delimiter : (d : Delimiter) × (is_delimiter d 43 ≡ true) → ⊥
unfolding is_delimiter
plus_is_no_delimiter (Hyphen, h) = false≢true h
plus_is_no_delimiter (SpaceOrT, h) = false≢true h
plus_is_no_delimiter (Colon, h) = false≢true h
plus_is_no_delimiter (Point, h) = false≢true h

-- past the end of a text there is none
inside : (text : List ℕ) (place : ℕ) → get_or text place 0 ≡ 43 → place < length text
inside [] place e = absurd (omega arith)
inside (x ∷ s) zero e = omega arith
inside (x ∷ s) (suc place) e = let l = inside s place e in omega arith

module _ (limit : ℕ) (epoch : ℤ) (text : List ℕ) (place : ℕ) {t : ℤ × ℕ} (accepted : read_text limit epoch text ≡ gives t) where
  -- Behind the first byte of an accepted text every byte is a digit or a delimiter, over every epoch and however large a year may be;
  pub digits_and_delimiters_only : suc place < length text → DigitOrDelimiter (get_or text (suc place) 0)
  unfolding read_text parsed
  digits_and_delimiters_only l = go (parsed limit text) (the_year limit (begins_with 45 text) (without_sign text)) accepted
    where
      refused : (e : ParseDateTimeError) → of_parse e ≡ gives t → ⊥
      refused MissingField h = refuses_not h
      refused InvalidFieldWidth h = refuses_not h
      refused InvalidFieldValue h = refuses_not h
      refused (RangeError d) h = inner_not h

      go : (p : Parsed) → IfRead (Plain (without_sign text)) p → stamped epoch p ≡ gives t → DigitOrDelimiter (get_or text (suc place) 0)
      go (Ok f) k h = behind_the_sign text place k l
      go (Err e) k h = absurd (refused e h)

  -- so that a text with a `+` behind its first byte is refused.
  pub no_inner_plus : get_or text (suc place) 0 ≡ 43 → ⊥
  no_inner_plus e = ⊎_elim plus_is_no_digit plus_is_no_delimiter (subst DigitOrDelimiter e (digits_and_delimiters_only (inside text (suc place) e)))
