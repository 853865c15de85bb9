-- Words between blanks. A line is the list of its bytes, and each definition reads a list from its front.
use Rattle.std.specs.Prelude.{cond, List, [], ◌∷◌, ℕ, zero, suc, ◌-◌, eqb, take, drop}
use Prim.Native.String.{String}
use Rattle.words.specs.Bytes.{index_of}
use Rattle.texts.specs.Texts.{bytes, alike}

-- how many bytes stand before the first blank (32): all where there is none
unfoldable pub word_length : List ℕ → ℕ
word_length s = index_of 32 s

-- what stands in the word's row of a table, or another
abbrev pub by_word : {A : Type 0} → List ℕ → A → List (String × A) → A
by_word word other [] = other
by_word word other (row ∷ rows) = cond (alike word (bytes row.0)) row.1 (by_word word other rows)

-- the field at the front, a blank and the word behind it: how many bytes it has, 0 where no blank is in front
unfoldable pub field_length : List ℕ → ℕ
field_length [] = 0
field_length (x ∷ s) = cond (eqb x 32) (suc (word_length s)) 0

-- its word
unfoldable pub field_word : List ℕ → List ℕ
field_word s = take (field_length s - 1) (drop 1 s)

-- what is left from the field i on
unfoldable pub rest_at : ℕ → List ℕ → List ℕ
rest_at zero s = s
rest_at (suc i) s = rest_at i (drop (field_length s) s)

-- the word i
unfoldable pub word_at : ℕ → List ℕ → List ℕ
word_at i s = field_word (rest_at i s)
