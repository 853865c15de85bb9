-- Dates are checked for 0 to 6 in order: each refusal, and what was found good before it.
use mathlib.Core.Path.{◌≡◌}
use mathlib.Core.Bool.{false, ◌&&◌, and-false}
use mathlib.Core.List.{[], ◌∷◌}
use mathlib.Core.Logic.{◌⊎◌, inl, inr}
use Prim.Native.Nat.{ℕ, ◌≤◌, ◌<◌}
use lib.Dec.{leb}
use lib.IntN.{ℤ, pos}
use borrow.Author.Tests.{le-leb, lt-leb, le-ltb}
use Rattle.errors.specs.Refusals.{refuses, refusal}
use Rattle.calendar.specs.Walk.{Valid, date, month_length}
use Rattle.counts.specs.Counts.{date_time_secs, from_date_time}

-- a number that is below 1 or above n
outside : (k n : ℕ) → (k < 1) ⊎ (n < k) → (leb 1 k && leb k n) ≡ false
outside k n (inl h) = rw (lt-leb 1 k h)
outside k n (inr h) = rw (lt-leb k n h, and-false)

module _ (epoch year : ℤ) (month day hour min sec nano : ℕ) where
  pub month_first : (month < 1) ⊎ (12 < month) → from_date_time epoch year month day hour min sec nano ≡ refuses (refusal 0 (pos month ∷ []))
  unfolding from_date_time date_time_secs
  month_first h = rw (outside month 12 h)

  pub day_second : 1 ≤ month → month ≤ 12 → (day < 1) ⊎ (month_length year month < day) → from_date_time epoch year month day hour min sec nano ≡ refuses (refusal 1 (pos day ∷ []))
  unfolding from_date_time date_time_secs
  day_second a b h = rw (le-leb 1 month a, le-leb month 12 b, outside day (month_length year month) h)

module _ (epoch year : ℤ) (month day hour min sec nano : ℕ) (v : Valid (date year month day)) where
  pub hour_third : 23 < hour → from_date_time epoch year month day hour min sec nano ≡ refuses (refusal 2 (pos hour ∷ []))
  unfolding from_date_time date_time_secs
  hour_third h = rw (le-leb 1 month v.month_from, le-leb month 12 v.month_to, le-leb 1 day v.day_from, le-leb day (month_length year month) v.day_to, lt-leb hour 23 h)

  pub minute_fourth : hour ≤ 23 → 59 < min → from_date_time epoch year month day hour min sec nano ≡ refuses (refusal 3 (pos min ∷ []))
  unfolding from_date_time date_time_secs
  minute_fourth a h = rw (le-leb 1 month v.month_from, le-leb month 12 v.month_to, le-leb 1 day v.day_from, le-leb day (month_length year month) v.day_to, le-leb hour 23 a, lt-leb min 59 h)

  pub second_fifth : hour ≤ 23 → min ≤ 59 → 59 < sec → from_date_time epoch year month day hour min sec nano ≡ refuses (refusal 4 (pos sec ∷ []))
  unfolding from_date_time date_time_secs
  second_fifth a b h = rw (le-leb 1 month v.month_from, le-leb month 12 v.month_to, le-leb 1 day v.day_from, le-leb day (month_length year month) v.day_to, le-leb hour 23 a, le-leb min 59 b, lt-leb sec 59 h)

  pub nanosecond_sixth : hour ≤ 23 → min ≤ 59 → sec ≤ 59 → 1000000000 ≤ nano → from_date_time epoch year month day hour min sec nano ≡ refuses (refusal 5 (pos nano ∷ []))
  unfolding from_date_time date_time_secs
  nanosecond_sixth a b c h = rw (le-leb 1 month v.month_from, le-leb month 12 v.month_to, le-leb 1 day v.day_from, le-leb day (month_length year month) v.day_to, le-leb hour 23 a, le-leb min 59 b, le-leb sec 59 c, le-ltb nano 1000000000 h)
