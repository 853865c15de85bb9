-- Decimal digits as numbers. A text is the list of its bytes, and each definition but `pair_at` reads a list from its front.
use Rattle.std.specs.Prelude.{Bool, true, false, cond, ◌&&◌, Option, Some, None, List, [], ◌∷◌, ℕ, ◌+◌, ◌-◌, ◌*◌, ltb, leb, eqb, length, get_or}

-- the first byte is b
unfoldable pub begins_with : ℕ → List ℕ → Bool
begins_with b [] = false
begins_with b (x ∷ s) = eqb x b

-- the byte is one of `0` (48) to `9` (57)
unfoldable pub is_digit : ℕ → Bool
is_digit x = leb 48 x && leb x 57

-- every byte is one
unfoldable pub all_digits : List ℕ → Bool
all_digits [] = true
all_digits (x ∷ s) = is_digit x && all_digits s

-- the number of two digits at a place
unfoldable pub pair_at : List ℕ → ℕ → ℕ
pair_at s at = (get_or s at 0 - 48) * 10 + (get_or s (at + 1) 0 - 48)

-- the value of digits that follow others of value n
unfoldable pub decimal_after : ℕ → List ℕ → ℕ
decimal_after n [] = n
decimal_after n (x ∷ s) = decimal_after (n * 10 + (x - 48)) s

-- the exact value of digits, however many
abbrev pub decimal : List ℕ → ℕ
decimal s = decimal_after 0 s

-- digits only, at least one, of a value up to the limit: the number in a field of a text, and in a word of a request
unfoldable pub number : ℕ → List ℕ → Option ℕ
number limit s = cond (ltb 0 (length s) && all_digits s && leb (decimal s) limit) (Some (decimal s)) None

-- what is made of a number, and of none
abbrev pub on_number : {A : Type 0} → Option ℕ → A → (ℕ → A) → A
on_number (Some v) bad next = next v
on_number None bad next = bad
