-- Runs of stores: one behind another, and into a part of a line that was lent.
use mathlib.Core.Path.{◌≡◌, refl, sym, ap, ◌∙◌}
use mathlib.Core.List.{List, [], ◌∷◌, ◌++◌, append_assoc, append-nil}
use Prim.Native.Nat.{ℕ, suc, ◌+◌, ◌-◌, ◌≤◌}
use native.Mathlib.Nat.{zero-add, add-zero, add-suc, suc-add}
use native.Mathlib.Omega.{arith}
use lib.ListN.{length, set, take, drop, length-drop, drop_of_length-le}
use lib.Seq.{sets, sets-eq, set_comm, take_all, drop-drop}
use borrow.Rule.Slice.PartMut.{mid_of, put_mid}

-- one run behind the other is one run
pub sets_append : (l : List ℕ) (i : ℕ) (a b : List ℕ) → sets l i (a ++ b) ≡ sets (sets l i a) (i + length a) b
sets_append l i [] b = rw add-zero
sets_append l i (x ∷ a) b = sets_append (set l i x) (suc i) a b ∙ rw (suc-add, add-suc)

-- a store behind a run may come first, and so may a run
pub sets_set : (l : List ℕ) (i : ℕ) (a : List ℕ) (j d : ℕ) → i + length a ≤ j → sets (set l j d) i a ≡ set (sets l i a) j d
sets_set l i [] j d h = refl
sets_set l i (x ∷ a) j d h =
    ap (λ k. sets k (suc i) a) (set_comm l j i d x (omega arith)) ∙ sets_set (set l i x) (suc i) a j d (omega arith)

pub sets_sets : (l : List ℕ) (i : ℕ) (a : List ℕ) (j : ℕ) (b : List ℕ) → i + length a ≤ j → sets (sets l j b) i a ≡ sets (sets l i a) j b
sets_sets l i a j [] h = refl
sets_sets l i a j (x ∷ b) h =
    sets_sets (set l j x) i a (suc j) b (omega arith) ∙ ap (λ k. sets k (suc j) b) (sets_set l i a j x h)

-- a part of a line, written anew
pub part_anew : (s : List ℕ) (at k : ℕ) (ys : List ℕ) → at + k ≤ length s → length ys ≡ k → put_mid at k s ys ≡ sets s at ys
part_anew s at k ys h e =
    let g : at + length ys ≤ length s = omega (arith, e) in
    sym (sets-eq ys s at g ∙ rw (e, drop-drop, append_assoc))

-- the part of a line from `at` on, with a text stored at its front, put back into the line
pub put_back : (s : List ℕ) (at : ℕ) (text ys : List ℕ) → at ≤ length s → length text ≤ length s - at
    → ys ≡ sets (mid_of at (length s - at) s) 0 text
    → put_mid at (length s - at) s ys ≡ take at s ++ text ++ drop (at + length text) s
put_back s at text ys h g e =
    let d = length-drop at s in
    let m : take (length s - at) (drop at s) ≡ drop at s = take_all (length s - at) (drop at s) (omega arith) in
    let z : drop (length s - at) (drop at s) ≡ [] = drop_of_length-le (drop at s) {i = length s - at} (omega arith) in
    rw (e, m, z, front (drop at s) (omega arith), drop-drop, append-nil, append_assoc)
  where
    front : (l : List ℕ) → length text ≤ length l → sets l 0 text ≡ text ++ drop (length text) l
    front l k = sets-eq text l 0 (rw zero-add k) ∙ rw zero-add
