-- HEX: an even number of lower-case hexadecimal digits, and `-` stands for none.
use Rattle.std.specs.Prelude.{Bool, cond, ◌&&◌, List, [], ◌∷◌, ◌≡◌, ℕ, ◌+◌, ◌-◌, ◌*◌, ◌/◌, ◌%◌, ◌≤◌, eqb, ltb, leb, length, take, get_or}
use Rattle.std.specs.List.{list_all}
use Rattle.texts.specs.Texts.{bytes, alike}

-- the digit of a value below 16
abbrev pub digit_of : ℕ → ℕ
digit_of v = get_or (bytes "0123456789abcdef") v 0

-- the value of a digit, `0` (48) to `9` (57) or `a` (97) to `f` (102); 0 of any other byte
unfoldable pub digit_value : ℕ → ℕ
digit_value x = cond (leb 48 x && leb x 57) (x - 48) (cond (leb 97 x && leb x 102) (x - 87) 0)

-- a byte is a digit if it is that of its value
abbrev pub is_hex_digit : ℕ → Bool
is_hex_digit x = eqb (digit_of (digit_value x)) x

abbrev pub all_digits : List ℕ → Bool
all_digits = list_all is_hex_digit

-- a word is HEX: an even number of digits, at least one pair, or `-`
unfoldable pub is_hex : List ℕ → Bool
is_hex s = cond (eqb (length s % 2) 0) (ltb 0 (length s) && all_digits s) (alike s (bytes "-"))

-- the bytes that its pairs of digits stand for: none for `-`
unfoldable pub hex_bytes : List ℕ → List ℕ
hex_bytes [] = []
hex_bytes (x ∷ []) = []
hex_bytes (x ∷ y ∷ s) = (digit_value x * 16 + digit_value y) ∷ hex_bytes s

-- they are the n bytes at the front of l
pub record Unhexed (s l : List ℕ) (n : ℕ) : Type 0 where
  pub front : take n l ≡ hex_bytes s
  pub within : n ≤ length l
  pub half : 2 * n ≤ length s

-- two digits for each byte
unfoldable pub digit_pairs : List ℕ → List ℕ
digit_pairs [] = []
digit_pairs (b ∷ s) = digit_of (b / 16) ∷ digit_of (b % 16) ∷ digit_pairs s

-- the HEX of bytes, `-` of none
unfoldable pub hex_text : List ℕ → List ℕ
hex_text s = cond (eqb (length s) 0) (bytes "-") (digit_pairs s)
