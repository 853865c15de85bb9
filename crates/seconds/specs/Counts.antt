-- What a new timestamp and a change of reference answer: document 01's checks in its order ("Counts and durations", "When the
-- box says no"), in exact integers; a sum is asked for its result alone (02, ask 5).
use Rattle.std.specs.Prelude.{[], ℕ, ◌/◌, ◌%◌, ltb, ℤ, pos, ◌+ℤ◌, ◌-ℤ◌}
use Rattle.integers.specs.Integers.{is_i64}
use Rattle.errors.specs.Refusals.{refusal, Outcome, gives, check}

-- 10: z must be an i64; 11: nanoseconds must be below 10^9
abbrev pub representable : {A : Type 0} → ℤ → Outcome A → Outcome A
representable z rest = check (is_i64 z) (refusal 10 []) rest

abbrev pub good_nanos : {A : Type 0} → ℕ → Outcome A → Outcome A
good_nanos nanos rest = check (ltb nanos 1000000000) (refusal 11 []) rest

unfoldable pub new_time : ℤ → ℕ → Outcome (ℤ × ℕ)
new_time secs nanos = good_nanos nanos (gives (secs, nanos))

-- Unix to timestamp: the whole seconds in the nanoseconds carried, the leap seconds added, the epoch taken off
unfoldable pub from_unix : ℤ → ℤ → ℕ → ℤ → Outcome (ℤ × ℕ)
from_unix epoch unix nanos leap = representable secs (gives (secs, nanos % 1000000000))
  where
    secs : ℤ
    secs = unix +ℤ pos (nanos / 1000000000) +ℤ leap -ℤ epoch

-- timestamp to Unix: the leap seconds taken off, the epoch added
unfoldable pub to_unix : ℤ → ℤ → ℕ → ℤ → Outcome ℤ
to_unix epoch secs nanos leap = good_nanos nanos (representable unix (gives unix))
  where
    unix : ℤ
    unix = secs -ℤ leap +ℤ epoch

-- change of epoch: the old one added, the new one taken off
unfoldable pub over_epoch : ℤ → ℤ → ℤ → ℕ → Outcome (ℤ × ℕ)
over_epoch old new secs nanos = good_nanos nanos (representable moved (gives (moved, nanos)))
  where
    moved : ℤ
    moved = old -ℤ new +ℤ secs
