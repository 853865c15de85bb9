-- Facts of the walk alone: its steps, the lengths of months and years, year 0, and the cycle in seconds.
use mathlib.Core.Path.{◌≡◌, refl, sym, ap, ◌∙◌}
use mathlib.Core.Bool.{Bool, true, false, cond}
use mathlib.Core.List.{[], ◌∷◌}
use Prim.Native.Nat.{ℕ, zero, suc, ◌+◌, ◌<◌}
use native.Mathlib.Omega.{arith}
use lib.IntN.{ℤ, pos, negsuc, neg_ℤ, suc_ℤ, pred_ℤ, ◌+ℤ◌, ◌-ℤ◌, +ℤ_one, -ℤ_one}
use borrow.Author.Tests.{lt-ltb, le-ltb}
use Rattle.integers.specs.Integers.{floor_div, floor_mod}
use Rattle.integers.proofs.Signed.{plus, minus, eq_z, add_law}
use Rattle.integers.proofs.Floor.{floor_law, floor_one, floor_add}
use Rattle.calendar.specs.declared.Date.{Date}
use Rattle.calendar.specs.Walk.{divides, is_leap, month_row, month_length, date, next, prev, start, walk}
use Rattle.calendar.specs.Closed.{year_length, leap_years, year_start, sum_to, day_of_year, day_number}
use Rattle.moments.specs.Moments.{time_of_day, moment_at, ValidTime, second_of_day}
use Rattle.calendar.proofs.Months.{length_some, sum_zero}
use Rattle.calendar.proofs.Years.{start_step}
use Rattle.calendar.proofs.Walk.{walk_valid, next_prev, prev_next, day_law, day_walk, reads}
use Rattle.calendar.proofs.Cycle.{walk_cycle, walk_to_year_0}
use Rattle.demands.specs.Values.{month_lengths, moment}

-- ---- steps
suc_walk : (n : ℤ) → walk (suc_ℤ n) ≡ next (walk n)
unfolding walk
suc_walk (pos n) = refl
suc_walk (negsuc zero) = sym (next_prev start (walk_valid (pos 0)))
suc_walk (negsuc (suc n)) = sym (next_prev (walk (negsuc n)) (walk_valid (negsuc n)))

pub walk_on : (n : ℤ) → walk (n +ℤ pos 1) ≡ next (walk n)
walk_on n = ap walk (+ℤ_one n) ∙ suc_walk n

pred_walk : (n : ℤ) → walk (pred_ℤ n) ≡ prev (walk n)
unfolding walk
pred_walk (pos zero) = refl
pred_walk (pos (suc n)) = sym (prev_next (walk (pos n)) (walk_valid (pos n)))
pred_walk (negsuc n) = refl

pub walk_back : (n : ℤ) → walk (n -ℤ pos 1) ≡ prev (walk n)
walk_back n = ap walk (-ℤ_one n) ∙ pred_walk n

module _ (d : Date) where
  pub next_day : d.day < month_length d.year d.month → next d ≡ date d.year d.month (d.day + 1)
  unfolding next
  next_day h = rw (lt-ltb d.day (month_length d.year d.month) h)

  pub next_month : d.day ≡ month_length d.year d.month → d.month < 12 → next d ≡ date d.year (d.month + 1) 1
  unfolding next
  next_month e h = rw (le-ltb d.day (month_length d.year d.month) (omega arith), lt-ltb d.month 12 h)

  pub next_year : d.day ≡ month_length d.year d.month → d.month ≡ 12 → next d ≡ date (suc_ℤ d.year) 1 1
  unfolding next
  next_year e h = rw (le-ltb d.day (month_length d.year d.month) (omega arith), le-ltb d.month 12 (omega arith))

-- ---- the months' lengths
pub common_lengths : (y : ℤ) → is_leap y ≡ false → month_lengths y ≡ 31 ∷ 28 ∷ 31 ∷ 30 ∷ 31 ∷ 30 ∷ 31 ∷ 31 ∷ 30 ∷ 31 ∷ 30 ∷ 31 ∷ []
unfolding month_length month_row
common_lengths y e = rw e

pub leap_lengths : (y : ℤ) → is_leap y ≡ true → month_lengths y ≡ 31 ∷ 29 ∷ 31 ∷ 30 ∷ 31 ∷ 30 ∷ 31 ∷ 31 ∷ 30 ∷ 31 ∷ 30 ∷ 31 ∷ []
unfolding month_length month_row
leap_lengths y e = rw e

-- ---- the years' lengths
first_day : (y : ℤ) → day_of_year (date y 1 1) ≡ 0
unfolding day_of_year
first_day y = omega (arith, sum_zero (month_row (is_leap y)))

length_is : (b : Bool) → year_length b ≡ cond b 366 365
unfolding year_length
length_is true = refl
length_is false = refl

pub year_length_lem : (n y : ℤ) → walk n ≡ date y 1 1 → walk (n +ℤ pos (cond (is_leap y) 366 365)) ≡ date (suc_ℤ y) 1 1
year_length_lem n y e =
    let l : ℕ = cond (is_leap y) 366 365 in
    let s = date (suc_ℤ y) 1 1 in
    let k : day_number (date y 1 1) ≡ n = sym (ap day_number e) ∙ day_walk n in
    sym (reads s (n +ℤ pos l) (record { month_from = omega arith; month_to = omega arith; day_from = omega arith; day_to = length_some (suc_ℤ y) 1 (omega arith) (omega arith) })
    (eq_z _ _ (omega (arith, day_law s, day_law (date y 1 1), first_day y, first_day (suc_ℤ y), start_step y, length_is (is_leap y), ap plus k, ap minus k, add_law n (pos l)))))

-- ---- year 0
pub year_0_leap : is_leap (pos 0) ≡ true
unfolding is_leap divides
year_0_leap = refl

pub day_60_of_year_0 : walk (neg_ℤ (pos 719469)) ≡ date (pos 0) 2 29
unfolding day_number day_of_year month_length month_row is_leap divides year_start leap_years floor_div sum_to
day_60_of_year_0 = sym (reads (date (pos 0) 2 29) (neg_ℤ (pos 719469)) (record { month_from = omega arith; month_to = omega arith; day_from = omega arith; day_to = omega arith }) refl)

pub seconds_of_year_0 : moment_at (neg_ℤ (pos 62167219200)) ≡ moment (pos 0) 1 1 0 0 0
unfolding moment_at time_of_day floor_div floor_mod
seconds_of_year_0 = λ i. record { date = walk_to_year_0 i; time = record { hour = 0; minute = 0; second = 0 } }

-- ---- the cycle in seconds
pub seconds_cycle : (z : ℤ) → moment_at (z +ℤ pos 12622780800)
    ≡ record { date = date (pos 400 +ℤ (moment_at z).date.year) (moment_at z).date.month (moment_at z).date.day; time = (moment_at z).time }
unfolding moment_at
seconds_cycle z =
    let o = floor_one (floor_law 86400 (z +ℤ pos 12622780800) (omega arith)) (floor_add (pos 146097) (floor_law 86400 z (omega arith))) in
    let d = ap walk o.0 ∙ walk_cycle (floor_div 86400 z) in
    λ i. record { date = d i; time = time_of_day (o.1 i) }

-- ---- the time of day
pub time_of : (n : ℕ) → n < 86400 → ValidTime (time_of_day n) × (second_of_day (time_of_day n) ≡ n)
unfolding time_of_day second_of_day
time_of n h = (record { hour_to = omega arith; minute_to = omega arith; second_to = omega arith }, omega arith)
