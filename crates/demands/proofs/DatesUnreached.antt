-- A date is refused with 6 exactly if the walk reaches it from no count.
use mathlib.Core.Path.{◌≡◌, refl, sym, ◌∙◌}
use mathlib.Core.Bool.{Bool, true, false}
use mathlib.Core.List.{[]}
use mathlib.Core.Logic.{◌↔◌}
use Prim.Native.Nat.{ℕ, ◌<◌}
use lib.IntN.{ℤ}
use Rattle.integers.specs.Integers.{is_i64}
use Rattle.errors.specs.Refusals.{refuses, refusal}
use Rattle.errors.proofs.Outcomes.{refuses_not}
use Rattle.moments.specs.declared.Moment.{Moment}
use Rattle.calendar.specs.Walk.{Valid, date}
use Rattle.moments.specs.Moments.{ValidTime}
use Rattle.counts.specs.Counts.{with_nanos, date_time_secs, from_date_time}
use Rattle.demands.specs.Values.{moment, Reaches}
use Rattle.demands.proofs.DatesWalked.{count, count_reaches, last_check, accepted}

module _ (epoch year : ℤ) (month day hour min sec nano : ℕ) where
  -- REFUSED WITH 6 EXACTLY IF NO COUNT REACHES IT
  pub refused : Valid (date year month day) → ValidTime (moment year month day hour min sec).time → nano < 1000000000
      → (from_date_time epoch year month day hour min sec nano ≡ refuses (refusal 6 [])) ↔ ((secs : ℤ) → Reaches epoch secs (moment year month day hour min sec) → ⊥)
  unfolding from_date_time
  refused v t n = (λ e secs r. refuses_not (sym e ∙ (accepted epoch year month day hour min sec nano secs nano).1 (r, refl, n)), λ f. go (is_i64 (count epoch m)) refl f)
    where
      m : Moment
      m = moment year month day hour min sec

      go : (b : Bool) → is_i64 (count epoch m) ≡ b → ((secs : ℤ) → Reaches epoch secs m → ⊥) → with_nanos nano (date_time_secs epoch year month day hour min sec nano) ≡ refuses (refusal 6 [])
      go true e f = absurd (f (count epoch m) (record { secs_fit = e; walked = count_reaches epoch m v t }))
      go false e f = rw (last_check epoch year month day hour min sec nano v t n false e)
