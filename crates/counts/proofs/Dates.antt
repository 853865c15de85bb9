-- Calendar fields that are all good, and the range of their seconds.
use mathlib.Core.Bool.{and-eq-true_iff}
use mathlib.Core.Path.{◌≡◌, refl, sym, ap, subst, ◌∙◌}
use Prim.Native.Nat.{ℕ, ◌<◌, ◌≤◌}
use lib.Dec.{leb}
use lib.IntN.{ℤ, ◌-ℤ◌, nat_abs}
use borrow.Author.Tests.{leb-true, ltb-true}
use Rattle.integers.specs.Integers.{checked, is_i64}
use Rattle.std.specs.Prelude.{Option, Some, None, Result, Err, ok_or, pos}
use Rattle.errors.specs.Refusals.{Outcome, gives, refuses, says, of_date_time}
use Rattle.errors.specs.declared.DateTimeError.TheVariants.{OutOfRange}
use Rattle.calendar.specs.Walk.{date, month_length, Valid}
use Rattle.errors.specs.declared.DateTimeError.{DateTimeError}
use Rattle.moments.specs.declared.Moment.{Moment}
use Rattle.moments.specs.Moments.{ValidTime, seconds_of}
use Rattle.errors.proofs.Outcomes.{passed}
use Rattle.seconds.proofs.Checks.{outside, inside, value}
use Rattle.counts.specs.Counts.{fields_checked, date_time_secs}

-- fields of which none is refused
pub record Good (year : ℤ) (month day hour min sec nano : ℕ) : Type 0 where
  pub valid : Valid (date year month day)
  pub time : ValidTime (record { hour = hour; minute = min; second = sec })
  pub nanos : nano < 1000000000

-- a value tells that they are, and comes from the rest
pub good_fields : (year : ℤ) (month day hour min sec nano : ℕ) {rest : Outcome ℤ} {x : ℤ} → fields_checked year month day hour min sec nano rest ≡ gives x
    → Good year month day hour min sec nano × (rest ≡ gives x)
good_fields year month day hour min sec nano e =
    let m = passed _ _ _ e in
    let d = passed _ _ _ m.1 in
    let h = passed _ _ _ d.1 in
    let n = passed _ _ _ h.1 in
    let s = passed _ _ _ n.1 in
    let f = passed _ _ _ s.1 in
    let mm = (and-eq-true_iff (leb 1 month) (leb month 12)).0 m.0 in
    let dd = (and-eq-true_iff (leb 1 day) (leb day (month_length year month))).0 d.0 in (
      record {
        valid = record { month_from = leb-true _ _ mm.0; month_to = leb-true _ _ mm.1; day_from = leb-true _ _ dd.0; day_to = leb-true _ _ dd.1 };
        time = record { hour_to = leb-true _ _ h.0; minute_to = leb-true _ _ n.0; second_to = leb-true _ _ s.0 };
        nanos = ltb-true _ _ f.0;
      },
      f.1,
    )

-- a field's refusal is the date's
pub field_refused : (epoch year : ℤ) (month day hour min sec nano : ℕ) (e : DateTimeError) → ((rest : Outcome ℤ) → refuses (of_date_time e) ≡ fields_checked year month day hour min sec nano rest)
    → refuses (of_date_time e) ≡ date_time_secs epoch year month day hour min sec nano
unfolding date_time_secs
field_refused epoch year month day hour min sec nano e h = h _

-- the moment that they name
abbrev pub moment : ℤ → ℕ → ℕ → ℕ → ℕ → ℕ → Moment
moment year month day hour min sec = record { date = date year month day; time = record { hour = hour; minute = min; second = sec } }

-- where none is refused, the moment exists, and then the range of its seconds decides
module _ (epoch year : ℤ) (month day hour min sec nano : ℕ) (all : (rest : Outcome ℤ) → rest ≡ fields_checked year month day hour min sec nano rest) {m : Moment} (is : m ≡ moment year month day hour min sec) where
  pub exists : {bound : ℕ} → nat_abs year ≤ bound → (nat_abs m.date.year ≤ bound) × Valid m.date × ValidTime m.time
  exists {bound} h =
      let good = good_fields year month day hour min sec nano (sym (all (gives (pos 0)))) in
      subst (λ m. (nat_abs m.date.year ≤ bound) × Valid m.date × ValidTime m.time) (sym is) (h, good.0.valid, good.0.time)

  pub secs_given : {s : Option ℤ} → s ≡ checked (seconds_of m -ℤ epoch) → {x : ℤ} → s ≡ Some x → gives x ≡ date_time_secs epoch year month day hour min sec nano
  unfolding date_time_secs
  secs_given e f = ap gives (value _ e f ∙ ap (λ m. seconds_of m -ℤ epoch) is) ∙ sym (rw (ap (λ m. is_i64 (seconds_of m -ℤ epoch)) (sym is) ∙ inside _ e f) refl) ∙ all _

  pub secs_refused : {s : Option ℤ} → s ≡ checked (seconds_of m -ℤ epoch) → s ≡ None → refuses (of_date_time OutOfRange) ≡ date_time_secs epoch year month day hour min sec nano
  unfolding date_time_secs
  secs_refused e f = sym (rw (ap (λ m. is_i64 (seconds_of m -ℤ epoch)) (sym is) ∙ outside _ e f) refl) ∙ all _

  -- both
  pub secs_said : (s : Option ℤ) → s ≡ checked (seconds_of m -ℤ epoch) → says (λ (x : ℤ). x) of_date_time (ok_or s OutOfRange) ≡ date_time_secs epoch year month day hour min sec nano
  secs_said (Some x) e = secs_given e refl
  secs_said None e = secs_refused e refl

-- what there was no value for is out of range
pub no_secs : {s : Option ℤ} {e : DateTimeError} → ◌≡◌ {A = Result ℤ DateTimeError} (Err e) (ok_or s OutOfRange) → s ≡ None → e ≡ OutOfRange
no_secs {e = e} k l = let q : ◌≡◌ {A = Result ℤ DateTimeError} (Err e) (Err OutOfRange) = k ∙ ap (λ s. ok_or s OutOfRange) l in cc
