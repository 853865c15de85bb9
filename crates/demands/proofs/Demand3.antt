-- Demand 3: dates are accepted exactly if the walk reaches them, sums and differences are exact, and over one epoch order
-- and text are those of the calendar reading.
use mathlib.Core.Path.{◌≡◌, refl}
use mathlib.Core.List.{List, []}
use mathlib.Core.Logic.{◌↔◌}
use Prim.Native.Nat.{ℕ, ◌≤◌, ◌<◌}
use native.Mathlib.Omega.{arith}
use lib.IntN.{ℤ, pos, nat_abs, ◌+ℤ◌, ◌-ℤ◌}
use lib.ListN.{take, drop}
use lib.Signed.{◌<ℤ◌}
use Rattle.std.specs.Prelude.{None}
use Rattle.errors.specs.Refusals.{gives, refuses, refusal}
use Rattle.moments.specs.declared.Moment.{Moment}
use Rattle.calendar.specs.Walk.{Valid}
use Rattle.moments.specs.Moments.{moment_at, ValidTime}
use Rattle.counts.specs.Counts.{from_date_time, exact, added, taken, since, compared}
use Rattle.std.specs.declared.cmp.Ordering.{Ordering}
use Rattle.reader.specs.Stamp.{read_text, year_limit}
use Rattle.printer.specs.Display.{time_text, displayed}
use Rattle.demands.specs.Values.{I64, Timestamp, Duration, moment, Reaches, EarlierReading, Stand, Read, TimeLiesAt, DurationLiesAt}
use Rattle.demands.proofs.DatesWalked.{accepted, one_count}
use Rattle.demands.proofs.DatesUnreached.{refused}
use Rattle.demands.proofs.ExactSums.{added_lies, taken_lies, since_lies}
use Rattle.demands.proofs.Order.{earlier, compares, reads}
use Rattle.demands.proofs.RoundTrip.{back}
use Rattle.demands.proofs.OneText.{one_text}
use Rattle.demands.proofs.Lent.{in_line}

-- ---- (a) Dates. The statements hold for every year, so for those from -2147483648 to 2147483647.
module _ (epoch year : ℤ) (month day hour min sec nano : ℕ) where
  -- A date, a time of day and nanoseconds are answered with a count exactly if the nanoseconds are below 10^9 and that count
  -- is an i64 and, the epoch added, reaches the date when the days are walked one by one; it is answered with those nanoseconds.
  pub date_accepted : (secs : ℤ) (nanos : ℕ)
      → (from_date_time epoch year month day hour min sec nano ≡ gives (secs, nanos)) ↔ (Reaches epoch secs (moment year month day hour min sec) × (nanos ≡ nano) × (nano < 1000000000))
  date_accepted = accepted epoch year month day hour min sec nano

  -- So, below 10^9 nanoseconds, it is accepted exactly if some count reaches it.
  pub date_accepted_if : nano < 1000000000
      → ((secs : ℤ) × (from_date_time epoch year month day hour min sec nano ≡ gives (secs, nano))) ↔ ((secs : ℤ) × Reaches epoch secs (moment year month day hour min sec))
  date_accepted_if n = (λ a. (a.0, ((date_accepted a.0 nano).0 a.1).0), λ r. (r.0, (date_accepted r.0 nano).1 (r.1, refl, n)))

  -- A date that exists, with a time of day, is refused with 6 exactly if no count reaches it.
  pub date_out_of_range : Valid (moment year month day hour min sec).date → ValidTime (moment year month day hour min sec).time → nano < 1000000000
      → (from_date_time epoch year month day hour min sec nano ≡ refuses (refusal 6 [])) ↔ ((secs : ℤ) → Reaches epoch secs (moment year month day hour min sec) → ⊥)
  date_out_of_range = refused epoch year month day hour min sec nano

-- At most one count reaches a date.
pub only_one_count : {epoch a b : ℤ} {m : Moment} → Reaches epoch a m → Reaches epoch b m → a ≡ b
only_one_count = one_count

-- ---- (b) Sums and differences. Each answers what lies at the exact nanosecond, and 10 exactly if nothing representable does.
-- a timestamp and a duration added,
pub adding : {secs : ℤ} {nanos dsecs dnanos : ℕ} → Timestamp secs nanos → Duration dsecs dnanos → TimeLiesAt (exact secs nanos +ℤ exact (pos dsecs) dnanos) (added secs nanos dsecs dnanos)
adding = added_lies

-- a duration taken from a timestamp,
pub subtracting : {secs : ℤ} {nanos dsecs dnanos : ℕ} → Timestamp secs nanos → Duration dsecs dnanos → TimeLiesAt (exact secs nanos -ℤ exact (pos dsecs) dnanos) (taken secs nanos dsecs dnanos)
subtracting = taken_lies

-- and the time from one timestamp to another.
pub differencing : {secs secs' : ℤ} {nanos nanos' : ℕ} → Timestamp secs nanos → Timestamp secs' nanos' → DurationLiesAt (exact secs nanos -ℤ exact secs' nanos') (since secs nanos secs' nanos')
differencing = since_lies

-- ---- (c) Order
module _ (secs secs' : ℤ) (nanos nanos' : ℕ) where
  -- Over one epoch an earlier timestamp reads as an earlier calendar moment, by nanoseconds where the second is the same.
  pub earlier_reads_earlier : (epoch : ℤ) → nanos < 1000000000 → nanos' < 1000000000 → exact secs nanos <ℤ exact secs' nanos'
      → EarlierReading (moment_at (secs +ℤ epoch)) nanos (moment_at (secs' +ℤ epoch)) nanos'
  earlier_reads_earlier epoch = earlier epoch secs secs' nanos nanos'

  -- A comparison answers earlier, same or later exactly if both have good nanoseconds and their exact counts stand so,
  pub compared_exactly : (o : Ordering) → (compared secs nanos secs' nanos' ≡ gives o) ↔ ((nanos < 1000000000) × (nanos' < 1000000000) × Stand o (exact secs nanos) (exact secs' nanos'))
  compared_exactly = compares secs secs' nanos nanos'

  -- and over every epoch the two then read as an earlier, the same or a later moment.
  pub reads_as_compared : (epoch : ℤ) (o : Ordering) → compared secs nanos secs' nanos' ≡ gives o → Read o (moment_at (secs +ℤ epoch)) nanos (moment_at (secs' +ℤ epoch)) nanos'
  reads_as_compared epoch o e = let c = (compared_exactly o).0 e in reads epoch secs secs' nanos nanos' o c.0 c.1 c.2

-- ---- (d) Text, at default precision
-- Two timestamps that print the same over one epoch are the same,
pub one_timestamp_a_text : (epoch : ℤ) {secs secs' : ℤ} {nanos nanos' : ℕ} → I64 epoch → Timestamp secs nanos → Timestamp secs' nanos'
    → time_text secs nanos epoch None ≡ time_text secs' nanos' epoch None → (secs ≡ secs') × (nanos ≡ nanos')
one_timestamp_a_text = one_text

module _ (secs : ℤ) (nanos : ℕ) (epoch : ℤ) (t : Timestamp secs nanos) (within : nat_abs (moment_at (secs +ℤ epoch)).date.year ≤ year_limit) where
  -- the text reads back as the timestamp over the same epoch, if the year is within ±2147483647,
  pub reads_back : read_text year_limit epoch (time_text secs nanos epoch None) ≡ gives (secs, nanos)
  reads_back = back year_limit secs nanos epoch t (omega arith) (omega arith)

  -- and so does what printing has written into a line.
  pub reads_back_from_the_line : (line : List ℕ) (at n : ℕ) → (displayed secs nanos epoch None line at).0 ≡ gives n
      → read_text year_limit epoch (take n (drop at (displayed secs nanos epoch None line at).1)) ≡ gives (secs, nanos)
  reads_back_from_the_line line at n e = rw (in_line secs nanos epoch None line at e) (back year_limit secs nanos epoch t (omega arith) (omega arith))
