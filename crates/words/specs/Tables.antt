-- A table as the code has it: rows of a name and what it stands for.
use Rattle.std.specs.Prelude.{cond, List, [], ◌∷◌, ℕ, ℤ, pos, negsuc, Option, Some, None}
use Rattle.std.specs.Borrow.{Bor}
use Prim.Native.String.{String}
use Rattle.texts.specs.Texts.{alike}
use Rattle.words.specs.Words.{by_word}
use Rattle.words.specs.declared.tables.NamedEpoch.{NamedEpoch}
use Rattle.words.specs.declared.tables.NamedEpoch.TheVariants.{Monotonic, Gps, Gst, Bdt, Tai1958, Tai1972}

-- what stands in the row that a word names
unfoldable pub row_from : {A : Type 0} → List ℕ → List (Bor (List ℕ) × A) → Option A
row_from word [] = None
row_from word (row ∷ rows) = cond (alike word row.0.now) (Some row.1) (row_from word rows)

-- the epochs' names (`epoch_by` in `proofs/Epochs.antt`: as in `Kinds.antt`), and the one that a word is
abbrev pub epoch_names : List (String × Option NamedEpoch)
epoch_names =
    ("monotonic", Some Monotonic)
    ∷ ("gps", Some Gps)
    ∷ ("gst", Some Gst)
    ∷ ("bdt", Some Bdt)
    ∷ ("tai1958", Some Tai1958)
    ∷ ("tai1972", Some Tai1972)
    ∷ []

-- what each counts from, in seconds from 1970
abbrev pub start_of : NamedEpoch → ℤ
start_of Monotonic = pos 0
start_of Gps = pos 315964819
start_of Gst = pos 935280019
start_of Bdt = pos 1136073633
start_of Tai1958 = negsuc 378691199
start_of Tai1972 = pos 63072000

unfoldable pub epoch_row : List ℕ → Option NamedEpoch
epoch_row word = by_word word None epoch_names
