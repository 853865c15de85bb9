-- Document 01, "When the box says no": what each refusal of a date, and of printing, is given for, and that those before it are not.
use Rattle.std.specs.Prelude.{List, [], ◌∷◌, ◌⊎◌, ℕ, ◌+◌, ◌<◌, ◌≤◌, ℤ, pos, length, Option}
use Rattle.errors.specs.Refusals.{Refusal, refusal}
use Rattle.calendar.specs.Walk.{Valid, date, month_length}
use Rattle.moments.specs.Moments.{ValidTime}
use Rattle.printer.specs.Display.{time_text}
use Rattle.demands.specs.Values.{moment, Reaches}

-- the refusals of calendar fields: the first field that is bad, in order, and 6 where all are good
pub data DateRefused (epoch year : ℤ) (month day hour min sec nano : ℕ) : Refusal → Type 0 where
  bad_month : (month < 1) ⊎ (12 < month) → DateRefused epoch year month day hour min sec nano (refusal 0 (pos month ∷ []))
  bad_day : 1 ≤ month → month ≤ 12 → (day < 1) ⊎ (month_length year month < day) → DateRefused epoch year month day hour min sec nano (refusal 1 (pos day ∷ []))
  bad_hour : Valid (date year month day) → 23 < hour → DateRefused epoch year month day hour min sec nano (refusal 2 (pos hour ∷ []))
  bad_minute : Valid (date year month day) → hour ≤ 23 → 59 < min → DateRefused epoch year month day hour min sec nano (refusal 3 (pos min ∷ []))
  bad_second : Valid (date year month day) → hour ≤ 23 → min ≤ 59 → 59 < sec → DateRefused epoch year month day hour min sec nano (refusal 4 (pos sec ∷ []))
  bad_nanosecond : Valid (date year month day) → hour ≤ 23 → min ≤ 59 → sec ≤ 59 → 1000000000 ≤ nano → DateRefused epoch year month day hour min sec nano (refusal 5 (pos nano ∷ []))
  -- no i64, the epoch added, reaches it by the walk
  out_of_range : Valid (date year month day) → ValidTime (moment year month day hour min sec).time → nano < 1000000000
      → ((secs : ℤ) → Reaches epoch secs (moment year month day hour min sec) → ⊥) → DateRefused epoch year month day hour min sec nano (refusal 6 [])

-- the refusals of printing, in order
pub data PrintRefused (secs : ℤ) (nanos : ℕ) (epoch : ℤ) (precision : Option ℕ) (line : List ℕ) (at : ℕ) : Refusal → Type 0 where
  bad_nanos : 1000000000 ≤ nanos → PrintRefused secs nanos epoch precision line at (refusal 11 [])
  start_outside : nanos < 1000000000 → length line < at → PrintRefused secs nanos epoch precision line at (refusal 12 [])
  -- with the text's length
  no_room : nanos < 1000000000 → at ≤ length line → length line < at + length (time_text secs nanos epoch precision)
      → PrintRefused secs nanos epoch precision line at (refusal 13 (pos (length (time_text secs nanos epoch precision)) ∷ []))
