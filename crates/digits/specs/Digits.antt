-- Decimal digits, as bytes. A byte is a number, and that of `0` is 48.
use Rattle.std.specs.Prelude.{cond, List, [], ◌∷◌, ◌++◌, ℕ, zero, suc, ◌+◌, ◌/◌, ◌%◌, ◌^◌, ltb}

-- the last w decimal digits of n
unfoldable pub digits : ℕ → ℕ → List ℕ
digits zero n = []
digits (suc w) n = digits w (n / 10) ++ ((48 + n % 10) ∷ [])

-- the least width from w to w + k that has room for n
unfoldable pub width_from : ℕ → ℕ → ℕ → ℕ
width_from zero w n = w
width_from (suc k) w n = cond (ltb n (10 ^ w)) w (width_from k (suc w) n)

-- how many digits a year's size is written in: at least four (and up to 20, which is more than an i64 takes)
unfoldable pub width : ℕ → ℕ
width n = width_from 16 4 n

-- a separator, and a number in two digits
abbrev pub field : ℕ → ℕ → List ℕ
field separator n = separator ∷ digits 2 n
