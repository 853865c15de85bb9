-- Decimal numbers: how large a number is.
use mathlib.Core.Path.{◌≡◌}
use mathlib.Core.Bool.{Bool, true, false, cond, ◌&&◌}
use mathlib.Core.List.{List}
use Prim.Native.Nat.{ℕ, zero, suc, ◌-◌, ◌<◌, ◌≤◌}
use native.Mathlib.Numerals.{sub-one}
use native.Mathlib.Omega.{arith}
use lib.Dec.{ltb}
use lib.IntN.{negsuc}
use lib.ListN.{length}
use Rattle.std.specs.Prelude.{Option, Some, None}
use Rattle.decimals.specs.Numbers.{begins_with, number}
use Rattle.decimals.proofs.Values.{number_small}
use Rattle.words.specs.Numbers.{unsigned, below}

not_bad : (b : Bool) (x : Option ℕ) {v : ℕ} → cond b None x ≡ Some v → x ≡ Some v
not_bad true x h = cc
not_bad false x h = h

-- a number is at most its limit
pub unsigned_small : (limit : ℕ) (s : List ℕ) {v : ℕ} → unsigned limit s ≡ Some v → v ≤ limit
unfolding unsigned
unsigned_small limit s h = number_small limit s (not_bad (begins_with 48 s && ltb 1 (length s)) (number limit s) h)

pub below_value : (n : ℕ) → 0 < n → below (Some n) ≡ Some (negsuc (n - 1))
below_value zero h = absurd (omega arith)
below_value (suc n) h = rw sub-one
