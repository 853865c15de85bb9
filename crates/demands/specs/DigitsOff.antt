-- Document 02, ask 2: digits that come off a number by a product and a shift.
use Rattle.std.specs.Prelude.{List, [], ◌∷◌, ◌++◌, ℕ, zero, suc, ◌+◌, ◌-◌, ◌*◌, ◌/◌, ◌^◌}

-- times 429,496,730, shifted right by 32
unfoldable pub shifted : ℕ → ℕ
shifted n = n * 429496730 / 2 ^ 32

-- w digits, of which the last comes off first: it is what ten times the shifted product lacks of n
unfoldable pub digits_off : ℕ → ℕ → List ℕ
digits_off zero n = []
digits_off (suc w) n = digits_off w (shifted n) ++ ((48 + (n - shifted n * 10)) ∷ [])
