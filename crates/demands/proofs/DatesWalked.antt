-- A date is accepted exactly if the walk reaches it.
use mathlib.Core.Path.{◌≡◌, sym, ap, ◌∙◌, subst}
use mathlib.Core.Bool.{Bool, true}
use mathlib.Core.List.{[]}
use mathlib.Core.Logic.{◌↔◌}
use Prim.Native.Nat.{ℕ, ◌<◌}
use lib.IntN.{ℤ, ◌+ℤ◌, ◌-ℤ◌, +ℤ-neg_ℤ_cancel, -ℤ-+ℤ_cancel}
use borrow.Author.Tests.{le-leb, lt-ltb}
use Rattle.integers.specs.Integers.{is_i64}
use Rattle.errors.specs.Refusals.{gives, refusal, check}
use Rattle.errors.proofs.Outcomes.{gives_one, passed}
use Rattle.moments.specs.declared.Moment.{Moment}
use Rattle.calendar.specs.Walk.{Valid, date, month_length}
use Rattle.moments.specs.Moments.{moment_at, ValidTime, seconds_of}
use Rattle.moments.proofs.Moments.{seconds_moment, moment_seconds, moment_valid}
use Rattle.counts.specs.Counts.{with_nanos, date_time_secs, from_date_time}
use Rattle.counts.proofs.Dates.{Good, good_fields}
use Rattle.demands.specs.Values.{moment, Reaches}
use Rattle.demands.proofs.Passed.{with_nanos_lem}

-- ---- the only count
pub one_moment : {y z : ℤ} → moment_at y ≡ moment_at z → y ≡ z
one_moment {y} {z} e = sym (seconds_moment y) ∙ ap seconds_of e ∙ seconds_moment z

pub one_count : {epoch a b : ℤ} {m : Moment} → Reaches epoch a m → Reaches epoch b m → a ≡ b
one_count {epoch} {a} {b} p q =
    sym (+ℤ-neg_ℤ_cancel a epoch) ∙ ap (λ z. z -ℤ epoch) (one_moment (p.walked ∙ sym q.walked)) ∙ +ℤ-neg_ℤ_cancel b epoch

-- the seconds of calendar fields, over an epoch
abbrev pub count : ℤ → Moment → ℤ
count epoch m = seconds_of m -ℤ epoch

pub count_reaches : (epoch : ℤ) (m : Moment) → Valid m.date → ValidTime m.time → moment_at (count epoch m +ℤ epoch) ≡ m
count_reaches epoch m v t = ap moment_at (-ℤ-+ℤ_cancel (seconds_of m) epoch) ∙ moment_seconds m v t

count_of : (epoch secs : ℤ) {m : Moment} → moment_at (secs +ℤ epoch) ≡ m → count epoch m ≡ secs
count_of epoch secs e = ap (λ x. seconds_of x -ℤ epoch) (sym e) ∙ ap (λ z. z -ℤ epoch) (seconds_moment (secs +ℤ epoch)) ∙ +ℤ-neg_ℤ_cancel secs epoch

module _ (epoch year : ℤ) (month day hour min sec nano : ℕ) where
  -- what is left of the checks for a date that exists
  pub last_check : Valid (date year month day) → ValidTime (moment year month day hour min sec).time → nano < 1000000000
      → (b : Bool) → is_i64 (count epoch (moment year month day hour min sec)) ≡ b
      → date_time_secs epoch year month day hour min sec nano ≡ check b (refusal 6 []) (gives (count epoch (moment year month day hour min sec)))
  unfolding date_time_secs
  last_check v t n b e =
      rw (le-leb 1 month v.month_from, le-leb month 12 v.month_to, le-leb 1 day v.day_from, le-leb day (month_length year month) v.day_to, le-leb hour 23 t.hour_to, le-leb min 59 t.minute_to, le-leb sec 59 t.second_to, lt-ltb nano 1000000000 n, e)

  -- what a value tells of the fields
  record Told (secs : ℤ) : Type 0 where
    good : Good year month day hour min sec nano
    fits : is_i64 secs ≡ true
    is : count epoch (moment year month day hour min sec) ≡ secs

  told : {secs : ℤ} → date_time_secs epoch year month day hour min sec nano ≡ gives secs → Told secs
  unfolding date_time_secs
  told e =
      let g = good_fields year month day hour min sec nano e in
      let h = passed _ _ _ g.1 in
      let i = gives_one h.1 in
      record { good = g.0; fits = sym (ap is_i64 i) ∙ h.0; is = i }

  -- ACCEPTED EXACTLY IF THE WALK REACHES IT
  pub accepted : (secs : ℤ) (nanos : ℕ) → (from_date_time epoch year month day hour min sec nano ≡ gives (secs, nanos)) ↔ (Reaches epoch secs (moment year month day hour min sec) × (nanos ≡ nano) × (nano < 1000000000))
  unfolding from_date_time
  accepted secs nanos = (there, back)
    where
      m : Moment
      m = moment year month day hour min sec

      there : with_nanos nano (date_time_secs epoch year month day hour min sec nano) ≡ gives (secs, nanos) → Reaches epoch secs m × (nanos ≡ nano) × (nano < 1000000000)
      there e =
          let w = with_nanos_lem nano (date_time_secs epoch year month day hour min sec nano) e in
          let t = told w.0 in
          (record { secs_fit = t.fits; walked = ap (λ z. moment_at (z +ℤ epoch)) (sym t.is) ∙ count_reaches epoch m t.good.valid t.good.time }, w.1, t.good.nanos)

      back : Reaches epoch secs m × (nanos ≡ nano) × (nano < 1000000000) → with_nanos nano (date_time_secs epoch year month day hour min sec nano) ≡ gives (secs, nanos)
      back (r, e, n) =
          let v = moment_valid (secs +ℤ epoch) in
          let c = count_of epoch secs r.walked in
          rw (last_check (subst (λ (x : Moment). Valid x.date) r.walked v.0) (subst (λ (x : Moment). ValidTime x.time) r.walked v.1) n true (ap is_i64 c ∙ r.secs_fit), c, e)
