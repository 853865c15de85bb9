-- Document 02, ask 2: before 1,073,741,829 the product and the shift are a tenth of every number.
use mathlib.Core.Path.{◌≡◌, subst}
use Prim.Native.Nat.{ℕ, ◌+◌, ◌-◌, ◌/◌, ◌^◌, ◌<◌}
use native.Mathlib.Decide.{dec_lt}
use native.Mathlib.Omega.{arith}
use Rattle.demands.specs.DigitsOff.{shifted}
use Rattle.demands.proofs.DigitsOff.{exact_below_2^30, exact_from_2^30}

pub exact_before_1073741829 : (n : ℕ) → n < 1073741829 → shifted n ≡ n / 10
exact_before_1073741829 n h = go (dec_lt n (2 ^ 30))
  where
    go : Dec (n < 2 ^ 30) → shifted n ≡ n / 10
    go (yes l) = exact_below_2^30 n l
    go (no l) = subst (λ m. shifted m ≡ m / 10) {x = 2 ^ 30 + (n - 2 ^ 30)} {y = n} (omega arith) (exact_from_2^30 (n - 2 ^ 30) (omega arith))
