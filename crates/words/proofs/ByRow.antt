-- Tables, one row after the other.
use mathlib.Core.Path.{◌≡◌, refl}
use mathlib.Core.Bool.{Bool, true, false, cond}
use mathlib.Core.List.{List, [], ◌∷◌, map}
use Prim.Native.Nat.{ℕ}
use Prim.Native.String.{String}
use Rattle.texts.specs.Texts.{bytes, alike}
use Rattle.words.specs.Words.{by_word}

-- what is made of a table's answer, row by row
pub by_word_lem : {A B : Type 0} (f : A → B) (word : List ℕ) (other : A) (rows : List (String × A))
    → f (by_word word other rows) ≡ by_word word (f other) (map (λ row. (row.0, f row.1)) rows)
by_word_lem f word other [] = refl
by_word_lem {A = A} {B = B} f word other (row ∷ rows) = go (alike word (bytes row.0)) (by_word_lem f word other rows)
  where
    more : B
    more = by_word word (f other) (map (λ (r : String × A). (r.0, f r.1)) rows)

    go : (b : Bool) → f (by_word word other rows) ≡ more → f (cond b row.1 (by_word word other rows)) ≡ cond b (f row.1) more
    go true h = refl
    go false h = h
