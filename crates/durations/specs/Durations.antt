-- What sums, differences and comparisons answer: document 01's checks in its order ("Counts and durations"), in exact integers.
use Rattle.std.specs.Prelude.{ℕ, ◌/◌, ◌%◌, cond, [], ℤ, pos, negsuc, ◌+ℤ◌, ◌-ℤ◌, ◌*ℤ◌, int_lt}
use Rattle.integers.specs.Integers.{floor_div, floor_mod}
use Rattle.errors.specs.Refusals.{refusal, Outcome, gives, refuses}
use Rattle.seconds.specs.Counts.{representable, good_nanos}
use Rattle.std.specs.declared.cmp.Ordering.{Ordering}
use Rattle.std.specs.declared.cmp.Ordering.TheVariants.{Less, Equal, Greater}

-- the exact count of nanoseconds of a timestamp or a duration
unfoldable pub exact : ℤ → ℕ → ℤ
exact secs nanos = secs *ℤ pos 1000000000 +ℤ pos nanos

-- the timestamp that lies at an exact count, and the duration
unfoldable pub time_at : ℤ → Outcome (ℤ × ℕ)
time_at z = representable (floor_div 1000000000 z) (gives (floor_div 1000000000 z, floor_mod 1000000000 z))

unfoldable pub duration_at : ℤ → Outcome (ℕ × ℕ)
duration_at (pos n) = gives (n / 1000000000, n % 1000000000)
duration_at (negsuc n) = refuses (refusal 10 [])

unfoldable pub added : ℤ → ℕ → ℕ → ℕ → Outcome (ℤ × ℕ)
added secs nanos dsecs dnanos = good_nanos nanos (good_nanos dnanos (time_at (exact secs nanos +ℤ exact (pos dsecs) dnanos)))

unfoldable pub taken : ℤ → ℕ → ℕ → ℕ → Outcome (ℤ × ℕ)
taken secs nanos dsecs dnanos = good_nanos nanos (good_nanos dnanos (time_at (exact secs nanos -ℤ exact (pos dsecs) dnanos)))

unfoldable pub since : ℤ → ℕ → ℤ → ℕ → Outcome (ℕ × ℕ)
since secs nanos secs' nanos' = good_nanos nanos (good_nanos nanos' (duration_at (exact secs nanos -ℤ exact secs' nanos')))

unfoldable pub order : ℤ → ℤ → Ordering
order y z = cond (int_lt y z) Less (cond (int_lt z y) Greater Equal)

unfoldable pub compared : ℤ → ℕ → ℤ → ℕ → Outcome Ordering
compared secs nanos secs' nanos' = good_nanos nanos (good_nanos nanos' (gives (order (exact secs nanos) (exact secs' nanos'))))
