-- The three cases of a text that is to stand in a line, and that no two answers say the same.
use mathlib.Core.Path.{◌≡◌, ap}
use mathlib.Core.List.{List, [], ◌∷◌, ◌++◌}
use Prim.Native.Nat.{ℕ, ◌+◌, ◌-◌, ◌<◌, ◌≤◌}
use native.Mathlib.Omega.{arith}
use lib.IntN.{pos}
use lib.ListN.{length, take, drop}
use borrow.Author.Tests.{lt-ltb, le-ltb}
use Rattle.errors.specs.Refusals.{gives, refuses, refusal, of_print}
use Rattle.errors.proofs.One.{print_one}
use Rattle.errors.specs.declared.PrintError.{PrintError}
use Rattle.std.specs.Prelude.{Result, Ok, Err}
use Rattle.printer.specs.Lent.{said, by_room, answer, line_after}

module _ (s : List ℕ) (at : ℕ) (text : List ℕ) where
  pub outside : length s < at → (refuses (refusal 12 []) ≡ answer s at text) × (s ≡ line_after s at text)
  unfolding by_room
  outside h = let a = lt-ltb (length s) at h in (rw a, rw a)

  pub narrow : {n : ℕ} → n ≡ length text → at ≤ length s → length s - at < n → (refuses (refusal 13 (pos n ∷ [])) ≡ answer s at text) × (s ≡ line_after s at text)
  unfolding by_room
  narrow e h k =
      let a = le-ltb (length s) at h in
      let b = lt-ltb (length s - at) (length text) (omega (arith, e)) in
      (rw (e, a, b), rw (a, b))

  pub room : at ≤ length s → length text ≤ length s - at
      → (gives (length text) ≡ answer s at text) × (take at s ++ text ++ drop (at + length text) s ≡ line_after s at text)
  unfolding by_room
  room h k =
      let a = le-ltb (length s) at h in
      let b = le-ltb (length s - at) (length text) k in
      (rw (a, b), rw (a, b))

pub said_one : (a b : Result ℕ PrintError) → said a ≡ said b → a ≡ b
said_one (Ok m) (Ok n) e = cc
said_one (Ok m) (Err f) e = let z : ◌≡◌ {A = ℕ} 0 1 = cc in absurd (omega arith)
said_one (Err f) (Ok n) e = let z : ◌≡◌ {A = ℕ} 0 1 = cc in absurd (omega arith)
said_one (Err f) (Err g) e = let h : of_print f ≡ of_print g = cc in ap Err (print_one f g h)
