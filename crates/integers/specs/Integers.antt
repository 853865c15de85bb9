-- What the functions on signed numbers mean, in exact integers. (`pos n` is n, and `negsuc n` is -1 - n.)
use Rattle.std.specs.Prelude.{◌≡◌, ℕ, suc, ◌-◌, ◌/◌, ◌%◌, ◌^◌, ◌<◌, ◌≤◌, Bool, cond, Option, Some, None, ℤ, pos, negsuc, ◌+ℤ◌, ◌*ℤ◌, nat_lt, unsigned_abs}
use Rattle.std.specs.Int.{w64}
use Rattle.std.proofs.Common.{to_z}
use Rattle.integers.specs.declared.Parts.{Parts}

-- n is q times k and r more, and r is below k: q is n / k rounded down
pub record Floor (k : ℕ) (n q : ℤ) (r : ℕ) : Type 0 where
  pub whole : n ≡ q *ℤ pos k +ℤ pos r
  pub small : r < k

-- the number that a quotient by k and a rest make
unfoldable pub whole : ℕ → Parts → ℤ
whole k p = p.quotient *ℤ pos k +ℤ pos p.rest

-- parts that can be added
pub record Proper (k : ℕ) (p : Parts) : Type 0 where
  pub small : p.rest < k
  pub divisor : k ≤ 2 ^ 62
  pub quotient : unsigned_abs p.quotient ≤ 2 ^ 61

-- n / k rounded down, and what is left of n (proofs/Floor.antt: they are such a pair, and the only one)
unfoldable pub floor_div : ℕ → ℤ → ℤ
floor_div k (pos n) = pos (n / k)
floor_div k (negsuc n) = negsuc (n / k)

unfoldable pub floor_mod : ℕ → ℤ → ℕ
floor_mod k (pos n) = n % k
floor_mod k (negsuc n) = k - suc (n % k)

-- z is from -2^63 to 2^63 - 1
unfoldable pub is_i64 : ℤ → Bool
is_i64 (pos n) = nat_lt n (2 ^ 63)
is_i64 (negsuc n) = nat_lt n (2 ^ 63)

-- z, where an i64 holds it
unfoldable pub checked : ℤ → Option ℤ
checked z = cond (is_i64 z) (Some z) None

-- the i64 that differs from z by a multiple of 2^64
unfoldable pub wrapped : ℤ → ℤ
wrapped z = to_z w64 (floor_mod (2 ^ 64) z)
