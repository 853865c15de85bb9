-- What printing leaves in the line: nothing new on a refusal, else the text in its place, from where it reads back.
use mathlib.Core.Path.{◌≡◌, refl, sym, ap, ◌∙◌}
use mathlib.Core.Bool.{Bool, true, false, cond}
use mathlib.Core.List.{List, [], ◌∷◌, ◌++◌, append_assoc}
use Prim.Native.Nat.{ℕ, ◌+◌, ◌-◌, ◌≤◌, ◌<◌}
use native.Mathlib.Nat.{add-zero}
use native.Mathlib.Omega.{arith}
use lib.Dec.{ltb}
use lib.IntN.{ℤ, pos}
use lib.ListN.{length, take, drop, length-take}
use lib.Seq.{drop-append-add, take-append_seam}
use borrow.Author.Tests.{lt-ltb, le-ltb, ltb-false}
use Rattle.std.specs.Prelude.{Option}
use Rattle.errors.specs.Refusals.{Refusal, Outcome, gives, refuses, refusal}
use Rattle.errors.proofs.Outcomes.{gives_one, refuses_not}
use Rattle.printer.specs.Lent.{by_room}
use Rattle.printer.specs.Display.{time_text, displayed}

-- the outcome and the line, by the three tests: nanoseconds below 10^9, a place beyond the line, want of room
abbrev tested : List ℕ → ℕ → List ℕ → Bool → Bool → Bool → Outcome ℕ × List ℕ
tested line at text good outside narrow =
    cond {A = Outcome ℕ × List ℕ} good
    (cond outside (refuses (refusal 12 [])) (cond narrow (refuses (refusal 13 (pos (length text) ∷ []))) (gives (length text))), cond outside line (cond narrow line (take at line ++ text ++ drop (at + length text) line)))
    (refuses (refusal 11 []), line)

-- the bytes of a part of a list that is known by what stands before and behind it
part : (a b c : List ℕ) (at n : ℕ) → length a ≡ at → length b ≡ n → take n (drop at (a ++ b ++ c)) ≡ b
part a b c at n e f =
    rw (← e, ← f, append_assoc)
    (ap (take (length b)) (ap (λ k. drop k (a ++ (b ++ c))) (sym (add-zero (length a))) ∙ drop-append-add a (b ++ c) 0) ∙ take-append_seam b c)

module _ (secs : ℤ) (nanos : ℕ) (epoch : ℤ) (precision : Option ℕ) (line : List ℕ) (at : ℕ) where
  by_tests : displayed secs nanos epoch precision line at
      ≡ tested line at (time_text secs nanos epoch precision) (ltb nanos 1000000000) (ltb (length line) at) (ltb (length line - at) (length (time_text secs nanos epoch precision)))
  unfolding displayed by_room
  by_tests = refl

  -- A REFUSAL LEAVES THE LINE
  pub refusal_leaves : {r : Refusal} → (displayed secs nanos epoch precision line at).0 ≡ refuses r → (displayed secs nanos epoch precision line at).1 ≡ line
  refusal_leaves {r} = rw by_tests (go (ltb nanos 1000000000) (ltb (length line) at) (ltb (length line - at) (length (time_text secs nanos epoch precision))))
    where
      go : (a b c : Bool) → (tested line at (time_text secs nanos epoch precision) a b c).0 ≡ refuses r → (tested line at (time_text secs nanos epoch precision) a b c).1 ≡ line
      go true true c e = refl
      go true false true e = refl
      go true false false e = absurd (refuses_not (sym e))
      go false b c e = refl

  -- A LENGTH IS THE TEXT'S, AND THE TEXT STANDS IN ITS PLACE
  pub record Written (n : ℕ) : Type 0 where
    pub room : at + n ≤ length line
    pub is_length : length (time_text secs nanos epoch precision) ≡ n
    pub stands : (displayed secs nanos epoch precision line at).1 ≡ take at line ++ time_text secs nanos epoch precision ++ drop (at + n) line

  pub written : {n : ℕ} → (displayed secs nanos epoch precision line at).0 ≡ gives n → Written n
  written {n} e = go (ltb nanos 1000000000) (ltb (length line) at) (ltb (length line - at) (length text)) refl refl refl
    where
      text : List ℕ
      text = time_text secs nanos epoch precision

      go : (a b c : Bool) → ltb nanos 1000000000 ≡ a → ltb (length line) at ≡ b → ltb (length line - at) (length text) ≡ c → Written n
      go a b c p q r = done a b c q r (by_tests ∙ rw (p, q, r))
        where
          done : (a b c : Bool) → ltb (length line) at ≡ b → ltb (length line - at) (length text) ≡ c → displayed secs nanos epoch precision line at ≡ tested line at text a b c → Written n
          done true true c q r f = absurd (refuses_not (sym (ap (λ x. x.0) f) ∙ e))
          done true false true q r f = absurd (refuses_not (sym (ap (λ x. x.0) f) ∙ e))
          done false b c q r f = absurd (refuses_not (sym (ap (λ x. x.0) f) ∙ e))
          done true false false q r f =
              let l : length text ≡ n = gives_one (sym (ap (λ x. x.0) f) ∙ e) in
              record { room = omega (arith, ltb-false (length line) at q, ltb-false (length line - at) (length text) r); is_length = l; stands = ap (λ x. x.1) f ∙ rw l }

  pub in_line : {n : ℕ} → (displayed secs nanos epoch precision line at).0 ≡ gives n → take n (drop at (displayed secs nanos epoch precision line at).1) ≡ time_text secs nanos epoch precision
  in_line {n} e =
      let w = written e in
      rw w.stands (part (take at line) (time_text secs nanos epoch precision) (drop (at + n) line) at n (length-take at line ∙ omega (arith, w.room)) w.is_length)

  -- ---- 11 goes before 12 and 13, and 12 before 13
  pub bad_nanos : 1000000000 ≤ nanos → displayed secs nanos epoch precision line at ≡ (refuses (refusal 11 []), line)
  bad_nanos h = by_tests ∙ rw (le-ltb nanos 1000000000 h)

  pub start_outside : nanos < 1000000000 → length line < at → displayed secs nanos epoch precision line at ≡ (refuses (refusal 12 []), line)
  start_outside h k = by_tests ∙ rw (lt-ltb nanos 1000000000 h, lt-ltb (length line) at k)

  pub no_room : nanos < 1000000000 → at ≤ length line → length line < at + length (time_text secs nanos epoch precision)
      → displayed secs nanos epoch precision line at ≡ (refuses (refusal 13 (pos (length (time_text secs nanos epoch precision)) ∷ [])), line)
  no_room h k l = by_tests ∙ rw (lt-ltb nanos 1000000000 h, le-ltb (length line) at k, lt-ltb (length line - at) (length (time_text secs nanos epoch precision)) (omega arith))

  pub printed : nanos < 1000000000 → at + length (time_text secs nanos epoch precision) ≤ length line
      → displayed secs nanos epoch precision line at ≡ (gives (length (time_text secs nanos epoch precision)), take at line ++ time_text secs nanos epoch precision ++ drop (at + length (time_text secs nanos epoch precision)) line)
  printed h k = by_tests ∙ rw (lt-ltb nanos 1000000000 h, le-ltb (length line) at (omega arith), le-ltb (length line - at) (length (time_text secs nanos epoch precision)) (omega arith))
