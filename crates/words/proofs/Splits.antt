-- Words, one byte after the other.
use mathlib.Core.Path.{◌≡◌, refl}
use mathlib.Core.Bool.{true, false}
use mathlib.Core.List.{List, [], ◌∷◌}
use Prim.Native.Nat.{ℕ, zero, suc, ◌+◌, ◌<◌, ◌≤◌}
use native.Mathlib.Omega.{arith}
use lib.ListN.{length, drop, length-take, length-drop}
use Rattle.decimals.specs.Numbers.{begins_with}
use Rattle.words.specs.Words.{word_length, field_length, field_word, rest_at, word_at}

pub field_blank : (s : List ℕ) → begins_with 32 s ≡ true → 1 + word_length (drop 1 s) ≡ field_length s
unfolding begins_with field_length
field_blank [] e = let z : ◌≡◌ {A = ℕ} 0 1 = cc in absurd (omega arith)
field_blank (x ∷ s) e = rw e (omega arith)

pub field_none : (s : List ℕ) → begins_with 32 s ≡ false → 0 ≡ field_length s
unfolding begins_with field_length
field_none [] e = refl
field_none (x ∷ s) e = rw e

pub blank_length : (s : List ℕ) → begins_with 32 s ≡ true → 0 < length s
unfolding begins_with
blank_length [] e = let z : ◌≡◌ {A = ℕ} 0 1 = cc in absurd (omega arith)
blank_length (x ∷ s) e = omega arith

pub rest_within : (i : ℕ) (s : List ℕ) → length (rest_at i s) ≤ length s
unfolding rest_at
rest_within zero s = omega arith
rest_within (suc i) s = omega (arith, rest_within i (drop (field_length s) s), length-drop (field_length s) s)

pub word_within : (i : ℕ) (s : List ℕ) → length (word_at i s) ≤ length s
unfolding word_at field_word
word_within i s = let h = rest_within i s in simp (length-take, length-drop) (omega arith)
