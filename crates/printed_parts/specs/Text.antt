-- A year and a fraction, written: document 01, "How a stamp is written". A byte is a number, and that of `0` is 48.
use Rattle.std.specs.Prelude.{cond, List, [], ◌∷◌, ◌++◌, ℕ, eqb, ℤ, pos, nat_abs, take, Option, Some, None}
use Rattle.std.specs.Int.Signed.{lt_z}
use Rattle.digits.specs.Digits.{digits, width}

-- the bytes `-` and `.`
abbrev pub dash : ℕ
dash = 45

abbrev pub point : ℕ
point = 46

-- a year: `-` if it is below 0, and its size in at least four digits
unfoldable pub year_text : ℤ → List ℕ
year_text y = cond (lt_z y (pos 0)) (dash ∷ []) [] ++ digits (width (nat_abs y)) (nat_abs y)

-- a byte in front of others, but nothing for a `0` with nothing behind it
abbrev pub unless_last : ℕ → List ℕ → List ℕ
unless_last x [] = cond (eqb x 48) [] (x ∷ [])
unless_last x (y ∷ s) = x ∷ y ∷ s

-- digits without the zeros at their end
unfoldable pub trim : List ℕ → List ℕ
trim [] = []
trim (x ∷ s) = unless_last x (trim s)

-- a point and the digits behind it, or nothing where there are none
abbrev pub pointed : List ℕ → List ℕ
pointed [] = []
pointed (x ∷ s) = point ∷ x ∷ s

-- n nanoseconds: their nine digits without the zeros at the end, or the first k of the nine
unfoldable pub fraction_text : Option ℕ → ℕ → List ℕ
fraction_text None n = pointed (trim (digits 9 n))
fraction_text (Some k) n = pointed (take k (digits 9 n))
