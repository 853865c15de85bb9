-- The numbers of a line.
use Rattle.std.specs.Prelude.{cond, ◌&&◌, List, ℕ, zero, suc, ◌+◌, ltb, ℤ, pos, negsuc, length, drop, Option, Some, None}
use Rattle.decimals.specs.Numbers.{begins_with, number}

-- a number of an unsigned type: digits, at least one, of a value up to the limit, and no needless zero (`0` is 48)
unfoldable pub unsigned : ℕ → List ℕ → Option ℕ
unsigned limit s = cond (begins_with 48 s && ltb 1 (length s)) None (number limit s)

-- a number as it is
abbrev pub above : Option ℕ → Option ℤ
above (Some n) = Some (pos n)
above None = None

-- a number behind `-`, which is not 0
abbrev pub below : Option ℕ → Option ℤ
below (Some zero) = None
below (Some (suc n)) = Some (negsuc n)
below None = None

-- a number of a signed type from -top - 1 to top (`-` is 45)
unfoldable pub signed : ℕ → List ℕ → Option ℤ
signed top s = cond (begins_with 45 s) (below (unsigned (top + 1) (drop 1 s))) (above (unsigned top s))
