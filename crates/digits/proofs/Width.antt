-- The width of a number: the least from four on that has room for it.
use mathlib.Core.Path.{◌≡◌, refl}
use mathlib.Core.Bool.{Bool, true, false, cond}
use Prim.Native.Nat.{ℕ, zero, suc, ◌+◌, ◌-◌, ◌^◌, ◌<◌, ◌≤◌}
use native.Mathlib.Decide.{dec_lt}
use native.Mathlib.Nat.{pow-le-pow_right, add-zero, add-suc, suc-add}
use native.Mathlib.Omega.{arith}
use lib.Dec.{ltb, lit<}
use borrow.Author.Tests.{ltb-true, ltb-false}
use Rattle.digits.specs.Digits.{width_from, width}

-- powers of ten keep the order
pub power_lt : (a b : ℕ) → 10 ^ a < 10 ^ b → a < b
power_lt a b h = go (dec_lt a b)
  where
    go : Dec (a < b) → a < b
    go (yes p) = p
    go (no p) = absurd (let q : 10 ^ b ≤ 10 ^ a = pow-le-pow_right {n = 10} (lit< tt) {i = b} {j = a} (omega arith) in omega arith)

-- r is the least from w on that has room for n
pub record Least (w n r : ℕ) : Type 0 where
  pub from : w ≤ r
  pub room : n < 10 ^ r
  pub least : w < r → 10 ^ (r - 1) ≤ n

from_least : (k w n : ℕ) → n < 10 ^ (w + k) → Least w n (width_from k w n)
unfolding width_from
from_least zero w n h = record { from = omega arith; room = rw add-zero at h; least = λ l. absurd (omega arith) }
from_least (suc k) w n h = go (ltb n (10 ^ w)) refl (from_least k (suc w) n (rw (add-suc, ← suc-add) at h))
  where
    next : (r : ℕ) → 10 ^ w ≤ n → suc w ≤ r → (suc w < r → 10 ^ (r - 1) ≤ n) → Dec (suc w < r) → 10 ^ (r - 1) ≤ n
    next r h g f (yes l) = f l
    next r h g f (no l) = let e : r - 1 ≡ w = omega arith in rw e h

    go : (b : Bool) → ltb n (10 ^ w) ≡ b → Least (suc w) n (width_from k (suc w) n) → Least w n (cond b w (width_from k (suc w) n))
    go true e f = record { from = omega arith; room = ltb-true n (10 ^ w) e; least = λ l. absurd (omega arith) }
    go false e f =
        record { from = omega (arith, f.from); room = f.room; least = λ l. next _ (ltb-false n (10 ^ w) e) f.from f.least (dec_lt _ _) }

pub width_least : (n : ℕ) → n < 10 ^ 20 → Least 4 n (width n)
unfolding width
width_least n h = from_least 16 4 n h

-- no width that has room is below the least
least_le : {w n r : ℕ} (m : ℕ) → w ≤ m → n < 10 ^ m → Least w n r → r ≤ m
least_le {w} {n} {r} m g h l = go (dec_lt m r)
  where
    go : Dec (m < r) → r ≤ m
    go (no k) = omega arith
    go (yes k) = let p = l.least (omega (arith, l.from)) in absurd (omega (arith, power_lt (r - 1) m (omega arith)))

pub width_le : (m n : ℕ) → 4 ≤ m → n < 10 ^ m → n < 10 ^ 20 → width n ≤ m
width_le m n g h k = least_le m g h (width_least n k)

pub width_is : (r n : ℕ) → n < 10 ^ 20 → Least 4 n r → width n ≡ r
width_is r n k l =
    let w = width_least n k in
    omega (arith, least_le r l.from l.room w, least_le (width n) w.from w.room l)
