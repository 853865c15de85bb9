-- An input cut behind its first line, or within it.
use mathlib.Core.Path.{◌≡◌, refl, sym, ap, ◌∙◌}
use mathlib.Core.Bool.{Bool, true, false}
use mathlib.Core.List.{List, [], ◌∷◌, ◌++◌}
use Prim.Native.Nat.compare
use Prim.Native.Nat.{ℕ, suc, ◌<◌, ◌≤◌}
use native.Mathlib.Omega.{arith}
use mathlib.Core.Logic.{◌⊎◌, inl, inr}
use lib.Dec.{eqb}
use lib.ListN.{length, take, drop}
use Rattle.words.specs.Bytes.{index_of}
use Rattle.lines.specs.Lines.{lines, in_first, others, ready, answers_to, answers}
use Rattle.std.specs.Prelude.{Some}
use Rattle.std.specs.Bool.{then_some}
use Rattle.lines.specs.FirstLine.{continues, decides, first_of}
use Rattle.lines.specs.declared.First.{First}

-- the first line
abbrev pub first : List (List ℕ) → List ℕ
first [] = []
first (line ∷ rest) = line

-- the bytes of the first line, with its LF
abbrev pub used : List ℕ → ℕ
used s = (first_of false s).used

in_first_lem : (x : ℕ) (ls : List (List ℕ)) → in_first x ls ≡ (x ∷ first ls) ∷ others ls
in_first_lem x [] = refl
in_first_lem x (line ∷ rest) = refl

-- one more byte before the first LF
module _ (x : ℕ) (s : List ℕ) (e : eqb x 10 ≡ false) where
  pub lines_more : lines (x ∷ s) ≡ (x ∷ first (lines s)) ∷ others (lines s)
  unfolding lines
  lines_more = rw (e, in_first_lem)

  pub index_more : index_of 10 (x ∷ s) ≡ suc (index_of 10 s)
  unfolding index_of
  index_more = rw e (omega arith)

module _ (t : List ℕ) where
  -- the first line, where an LF ends it or nothing follows
  pub first_line : (s : List ℕ) → (continues s ≡ false) ⊎ (t ≡ []) → first (lines (s ++ t)) ≡ take (index_of 10 s) s
  unfolding lines index_of
  first_line [] (inl h) = let z : ◌≡◌ {A = ℕ} 0 1 = cc in absurd (omega arith)
  first_line [] (inr h) = rw h
  first_line (x ∷ s) h = at (eqb x 10) refl h (first_line s)
    where
      at : (b : Bool) → eqb x 10 ≡ b → (continues (x ∷ s) ≡ false) ⊎ (t ≡ [])
          → ((continues s ≡ false) ⊎ (t ≡ []) → first (lines (s ++ t)) ≡ take (index_of 10 s) s)
          → first (lines (x ∷ (s ++ t))) ≡ take (index_of 10 (x ∷ s)) (x ∷ s)
      at true e h k = rw e
      at false e (inl h) k = rw (lines_more x (s ++ t) e, index_more x s e, k (inl (rw (index_more x s e, compare.suc-suc) at h)))
      at false e (inr h) k = rw (lines_more x (s ++ t) e, index_more x s e, k (inr h))

  -- it has all bytes before the first LF
  pub first_long : (s : List ℕ) → index_of 10 s ≤ length (first (lines (s ++ t)))
  unfolding lines index_of
  first_long [] = omega arith
  first_long (x ∷ s) = at (eqb x 10) refl (first_long s)
    where
      at : (b : Bool) → eqb x 10 ≡ b → index_of 10 s ≤ length (first (lines (s ++ t)))
          → index_of 10 (x ∷ s) ≤ length (first (lines (x ∷ (s ++ t))))
      at true e k = rw e (omega arith)
      at false e k = rw (lines_more x (s ++ t) e, index_more x s e) (omega arith)

-- a line that can be answered has a byte
pub ready_some : (ended : Bool) (s : List ℕ) → ready ended s ≡ true → 0 < length s
unfolding ready index_of
ready_some true [] e = let z : ◌≡◌ {A = ℕ} 0 1 = cc in omega arith
ready_some false [] e = let z : ◌≡◌ {A = ℕ} 0 1 = cc in omega arith
ready_some ended (x ∷ s) e = omega arith

pub index_le : (s : List ℕ) → index_of 10 s ≤ length s
unfolding index_of
index_le [] = omega arith
index_le (x ∷ s) = at (eqb x 10) refl (index_le s)
  where
    at : (b : Bool) → eqb x 10 ≡ b → index_of 10 s ≤ length s → index_of 10 (x ∷ s) ≤ suc (length s)
    at true e h = rw e (omega arith)
    at false e h = rw (index_more x s e) (omega arith)

-- what the length that decides tells, where it is there
pub first_some : (ended : Bool) (s : List ℕ) {f : First} {n : ℕ} → f ≡ first_of ended s → f.length ≡ Some n → (ready ended s ≡ true) × (n ≡ decides s)
first_some ended s {n = n} e k = go (ready ended s) (sym k ∙ ap (λ (f : First). f.length) e)
  where
    go : (b : Bool) → Some n ≡ then_some b (decides s) → (b ≡ true) × (n ≡ decides s)
    go true h = (refl, cc)
    go false h = cc

-- of bytes that are there, some are used, and no more
pub used_some : (s : List ℕ) → (used s ≤ length s) × (0 < length s → 0 < used s)
used_some s = (omega arith, λ h. omega arith)

-- the answers to an input cut behind its first line, or within it
module _ (answer : List ℕ → List ℕ) where
  -- passing over the first line
  pub pass : (t s : List ℕ) → answers answer true (s ++ t) ≡ answers answer (continues s) (drop (used s) s ++ t)
  unfolding lines index_of answers
  pass t [] = refl
  pass t (x ∷ s) = at (eqb x 10) refl (pass t s)
    where
      at : (b : Bool) → eqb x 10 ≡ b → answers answer true (s ++ t) ≡ answers answer (continues s) (drop (used s) s ++ t)
          → answers answer true (x ∷ (s ++ t)) ≡ answers answer (continues (x ∷ s)) (drop (used (x ∷ s)) (x ∷ s) ++ t)
      at true e k = let u : used (x ∷ s) ≡ 1 = rw e (omega arith) in rw (u, e, compare.zero-suc)
      at false e k =
          let u : used (x ∷ s) ≡ suc (used s) = rw (index_more x s e) (omega arith) in
          rw (u, lines_more x (s ++ t) e, index_more x s e, compare.suc-suc) k

  pub answers_first : (s : List ℕ) → 0 < length s → answers answer false s ≡ answer (first (lines s)) ++ (10 ∷ answers answer true s)
  unfolding answers lines answers_to
  answers_first [] h = absurd (omega arith)
  answers_first (x ∷ s) h = at (eqb x 10) refl
    where
      at : (b : Bool) → eqb x 10 ≡ b → answers answer false (x ∷ s) ≡ answer (first (lines (x ∷ s))) ++ (10 ∷ answers answer true (x ∷ s))
      at true e = rw e
      at false e = rw (lines_more x s e)
