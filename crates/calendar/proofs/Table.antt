-- A rule of a table, or of the numbers below a bound, shown of each by one test that is computed over all.
use mathlib.Core.Path.{subst}
use mathlib.Core.Bool.{Bool, true, ◌&&◌}
use mathlib.Core.List.{List}
use Prim.Native.Nat.{ℕ, zero, suc, ◌<◌}
use native.Mathlib.Decide.{dec_lt}
use native.Mathlib.Nat.{not-suc-le-zero}
use native.Mathlib.Omega.{arith}
use lib.Dec.{T}
use lib.ListN.{length, get_or}
use mir.Facts.{and_yes}

-- the test passes at each number below n
abbrev pub every : (ℕ → Bool) → ℕ → Bool
every f zero = true
every f (suc n) = f n && every f n

pub below : (f : ℕ → Bool) (n : ℕ) → T (every f n) → (k : ℕ) → k < n → T (f k)
below f zero t k h = absurd (not-suc-le-zero h)
below f (suc n) t k h = go (dec_lt k n) (below f n (and_yes (f n) (every f n) t).1 k)
  where
    go : Dec (k < n) → (k < n → T (f k)) → T (f k)
    go (yes l) g = g l
    go (no l) g = subst (λ m. T (f m)) {x = n} {y = k} (omega arith) (and_yes (f n) (every f n) t).0

pub at : (f : ℕ → ℕ → Bool) (xs : List ℕ) → T (every (λ i. f i (get_or xs i 0)) (length xs)) → (k : ℕ) → k < length xs → T (f k (get_or xs k 0))
at f xs = below (λ i. f i (get_or xs i 0)) (length xs)
