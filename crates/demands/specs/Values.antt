-- The words of the demands: a timestamp, a duration, the moment of calendar fields, a count that reaches a moment by the walk, a byte of a text.
use Rattle.std.specs.Prelude.{◌≡◌, true, false, List, [], ◌∷◌, ◌↔◌, ◌⊎◌, ℕ, ◌^◌, ◌<◌, ℤ, pos, ◌+ℤ◌, ◌*ℤ◌, ◌<ℤ◌}
use Rattle.integers.specs.Integers.{is_i64}
use Rattle.errors.specs.Refusals.{Outcome, gives, refuses, refusal}
use Rattle.moments.specs.declared.Moment.{Moment}
use Rattle.calendar.specs.Walk.{date, month_length}
use Rattle.moments.specs.Moments.{moment_at, EarlierMoment}
use Rattle.decimals.specs.Numbers.{is_digit}
use Rattle.fields.specs.Fields.{is_delimiter}
use Rattle.fields.specs.declared.Delimiter.{Delimiter}
use Rattle.std.specs.declared.cmp.Ordering.{Ordering}
use Rattle.std.specs.declared.cmp.Ordering.TheVariants.{Less, Equal, Greater}
use Rattle.counts.specs.Counts.{exact}

-- a signed 64-bit number
abbrev pub I64 : ℤ → Type 0
I64 z = is_i64 z ≡ true

-- a number that is none
abbrev pub LeavesI64 : ℤ → Type 0
LeavesI64 z = is_i64 z ≡ false

-- y is a multiple of k
abbrev pub Divides : ℕ → ℤ → Type 0
Divides k y = (q : ℤ) × (y ≡ q *ℤ pos k)

-- the lengths of a year's months, from January on
abbrev pub month_lengths : ℤ → List ℕ
month_lengths y =
    month_length y 1 ∷ month_length y 2 ∷ month_length y 3 ∷ month_length y 4 ∷ month_length y 5 ∷ month_length y 6 ∷ month_length y 7 ∷ month_length y 8 ∷ month_length y 9 ∷ month_length y 10 ∷ month_length y 11 ∷ month_length y 12 ∷ []

-- a timestamp: an i64 of seconds, and nanoseconds below 10^9
pub record Timestamp (secs : ℤ) (nanos : ℕ) : Type 0 where
  pub secs_fit : I64 secs
  pub nanos_to : nanos < 1000000000

-- a duration: a u64 of seconds, and nanoseconds below 10^9
pub record Duration (secs nanos : ℕ) : Type 0 where
  pub secs_fit : secs < 2 ^ 64
  pub nanos_to : nanos < 1000000000

-- the moment that calendar fields name
abbrev pub moment : ℤ → ℕ → ℕ → ℕ → ℕ → ℕ → Moment
moment year month day hour min sec =
    record { date = date year month day; time = record { hour = hour; minute = min; second = sec } }

-- a count is an i64 and, the epoch added, reaches the moment when the days are walked one by one from 1970-01-01
pub record Reaches (epoch secs : ℤ) (m : Moment) : Type 0 where
  pub secs_fit : I64 secs
  pub walked : moment_at (secs +ℤ epoch) ≡ m

-- a count over a new epoch is an i64 and reads, by the walk, as the moment that a count over the old one reads as
abbrev pub ReadsTheSame : ℤ → ℤ → ℤ → ℤ → Type 0
ReadsTheSame old secs new secs' = Reaches new secs' (moment_at (secs +ℤ old))

-- an earlier reading: by year, month, day, hour, minute, second, and then by nanoseconds
pub data EarlierReading (m : Moment) (nanos : ℕ) (m' : Moment) (nanos' : ℕ) : Type 0 where
  by_moment : EarlierMoment m m' → EarlierReading m nanos m' nanos'
  by_nanos : m ≡ m' → nanos < nanos' → EarlierReading m nanos m' nanos'

-- how two exact counts stand that compare so
abbrev pub Stand : Ordering → ℤ → ℤ → Type 0
Stand Less y z = y <ℤ z
Stand Equal y z = y ≡ z
Stand Greater y z = z <ℤ y

-- how two timestamps read over one epoch that compare so
abbrev pub Read : Ordering → Moment → ℕ → Moment → ℕ → Type 0
Read Less m nanos m' nanos' = EarlierReading m nanos m' nanos'
Read Equal m nanos m' nanos' = (m ≡ m') × (nanos ≡ nanos')
Read Greater m nanos m' nanos' = EarlierReading m' nanos' m nanos

-- an outcome is the timestamp that lies at an exact count of nanoseconds; it is 10 exactly if none lies there
pub record TimeLiesAt (z : ℤ) (o : Outcome (ℤ × ℕ)) : Type 0 where
  pub value : (secs : ℤ) (nanos : ℕ) → (o ≡ gives (secs, nanos)) ↔ (Timestamp secs nanos × (exact secs nanos ≡ z))
  pub none : (o ≡ refuses (refusal 10 [])) ↔ ((secs : ℤ) (nanos : ℕ) → Timestamp secs nanos → exact secs nanos ≡ z → ⊥)

-- the same of a duration
pub record DurationLiesAt (z : ℤ) (o : Outcome (ℕ × ℕ)) : Type 0 where
  pub value : (secs nanos : ℕ) → (o ≡ gives (secs, nanos)) ↔ (Duration secs nanos × (exact (pos secs) nanos ≡ z))
  pub none : (o ≡ refuses (refusal 10 [])) ↔ ((secs nanos : ℕ) → Duration secs nanos → exact (pos secs) nanos ≡ z → ⊥)

-- a byte is a digit, or a delimiter of some kind
abbrev pub DigitOrDelimiter : ℕ → Type 0
DigitOrDelimiter x = (is_digit x ≡ true) ⊎ ((d : Delimiter) × (is_delimiter d x ≡ true))
