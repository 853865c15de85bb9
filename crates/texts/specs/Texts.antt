-- Texts and numbers as lists of bytes.
use Rattle.std.specs.Prelude.{Bool, cond, List, [], ◌∷◌, ◌++◌, ◌≡◌, ℕ, zero, suc, ◌+◌, ◌/◌, ◌%◌, ltb, ℤ, pos, negsuc, length}
use Prim.Native.Char.{code}
use Prim.Native.String.{String, [] as noText, ◌∷◌ as ◌then◌}
use Rattle.std.specs.Str.{bytes_eq}
use Rattle.std.proofs.lemmas.List.Edits.{sets}

-- the bytes of a quoted text
abbrev pub bytes : String → List ℕ
bytes noText = []
bytes (c then s) = code c ∷ bytes s

-- two texts are the same, byte for byte
abbrev pub alike : List ℕ → List ℕ → Bool
alike = bytes_eq

-- a number in at most k digits, no needless zero: the digits of its tenth, and the last one (`0` is 48)
unfoldable pub in_places : ℕ → ℕ → List ℕ
in_places zero n = []
in_places (suc k) n = cond (ltb n 10) ((48 + n) ∷ []) (in_places k (n / 10) ++ ((48 + n % 10) ∷ []))

-- a number's digits: 20 hold every u64
unfoldable pub natural : ℕ → List ℕ
natural n = in_places 20 n

-- `-` (45) in front of the size of a number below 0
unfoldable pub integer : ℤ → List ℕ
integer (pos n) = natural n
integer (negsuc n) = 45 ∷ natural (suc n)

-- of a line s a text was written from `at` on, and nothing else: it is l then, and `behind` is the place behind the text
pub record Put (s : List ℕ) (at : ℕ) (text : List ℕ) (l : List ℕ) (behind : ℕ) : Type 0 where
  pub line : l ≡ sets s at text
  pub place : behind ≡ at + length text
