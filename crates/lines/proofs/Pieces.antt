-- An input in pieces: whatever they are, and whatever room the answers had, what was written is the answers to the whole.
use mathlib.Core.Path.{◌≡◌, refl, sym, ◌∙◌}
use mathlib.Core.Bool.{Bool, true, false}
use mathlib.Core.List.{List, [], ◌∷◌, ◌++◌, append_assoc}
use Prim.Native.Nat.{ℕ}
use lib.ListN.{take, drop}
use Rattle.lines.specs.Lines.{lines, answers_to, answers, Done}
use Rattle.lines.specs.declared.Answered.{Answered}

-- the pieces, one behind the other
abbrev pub joined : List (List ℕ) → List ℕ
joined [] = []
joined (piece ∷ pieces) = piece ++ joined pieces

module _ (answer : List ℕ → List ℕ) where
  -- how a text comes to be written, from the bytes at hand and the pieces still to be read
  pub data Run : Bool → List ℕ → List (List ℕ) → List ℕ → Type 0 where
    nothing_left : {within : Bool} → Run within [] [] []
    a_piece_read : {within : Bool} {s : List ℕ} {piece : List ℕ} {pieces : List (List ℕ)} {text : List ℕ}
        → Run within (s ++ piece) pieces text → Run within s (piece ∷ pieces) text
    a_turn : {within : Bool} {s out out' : List ℕ} {r : Answered} {pieces : List (List ℕ)} {text : List ℕ}
        → Done answer s within false out out' r → Run r.within (drop r.used s) pieces text → Run within s pieces (take r.written out' ++ text)
    a_last_turn : {within : Bool} {s out out' : List ℕ} {r : Answered} {text : List ℕ}
        → Done answer s within true out out' r → Run r.within (drop r.used s) [] text → Run within s [] (take r.written out' ++ text)

  no_input : (within : Bool) → answers answer within [] ≡ []
  unfolding answers lines answers_to
  no_input true = refl
  no_input false = refl

  run : {within : Bool} {s : List ℕ} {pieces : List (List ℕ)} {text : List ℕ} → Run within s pieces text
      → text ≡ answers answer within (s ++ joined pieces)
  run {within} nothing_left = sym (no_input within)
  run (a_piece_read next) = run next ∙ rw append_assoc
  run (a_turn {pieces = pieces} turn next) = rw (turn.same (joined pieces), run next)
  run (a_last_turn turn next) = rw (turn.same [], run next)

  -- all of an input, read from its start
  pub whole_input : {pieces : List (List ℕ)} {text : List ℕ} → Run false [] pieces text → text ≡ answers answer false (joined pieces)
  whole_input = run
