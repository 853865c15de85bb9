-- A refusal by its parts, and how long its name is.
use mathlib.Core.Path.{◌≡◌, refl, ap}
use mathlib.Core.Bool.{Bool, true, false, and-eq-true_iff}
use mathlib.Core.List.{List, [], ◌∷◌}
use Prim.Native.Nat.{ℕ, zero, suc, ◌≤◌}
use native.Mathlib.Omega.{arith}
use lib.Dec.{leb}
use lib.ListN.{length, get_or}
use borrow.Author.Tests.{leb-true}
use Rattle.std.specs.List.{list_all}
use Rattle.errors.specs.Told.{marked, inner, told}
use Rattle.errors.specs.declared.refusal.Refusal as Code
use Rattle.texts.specs.Texts.{natural}
use Rattle.answers.specs.Answers.{names, name_of, refusal_text, line}

short : (k : ℕ) (words : List (List ℕ)) (n : ℕ) → list_all (λ word. leb (length word) k) words ≡ true → length (get_or words n []) ≤ k
short k [] n e = omega arith
short k (word ∷ words) zero e = leb-true (length word) k ((and-eq-true_iff (leb (length word) k) _).0 e).0
short k (word ∷ words) (suc n) e = short k words n ((and-eq-true_iff (leb (length word) k) _).0 e).1

pub name_short : (n : ℕ) → length (name_of n) ≤ 17
name_short n = short 17 names n refl

-- a refusal's line, by what the code asks of it
pub told_text : (r : Code.Refusal) (b : Bool) → told {A = ℕ} r ≡ marked b (inner r) → line natural (told r) ≡ refusal_text b (inner r)
told_text r true e = ap (line natural) e
told_text r false e = ap (line natural) e
