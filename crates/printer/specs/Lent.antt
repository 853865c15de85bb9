-- What printing answers, and what the line is then: document 01, "When the box says no", with document 02, ask 11.
use Rattle.std.specs.Prelude.{cond, List, [], ◌∷◌, ◌++◌, ℕ, ◌+◌, ◌-◌, ltb, pos, length, take, drop, Result}
use Rattle.errors.specs.Refusals.{Outcome, gives, refuses, refusal, says, of_print}
use Rattle.errors.specs.declared.PrintError.{PrintError}

-- an answer by the number of its bytes, or by its refusal
abbrev pub said : Result ℕ PrintError → Outcome ℕ
said r = says (λ n. n) of_print r

-- one of three, for a text that is to stand in the line s from the place `at` on: the place is beyond the line's length;
-- the text is longer than what is left; there is room
unfoldable pub by_room : {A : Type 0} → List ℕ → ℕ → List ℕ → A → A → A → A
by_room s at text outside narrow room =
    cond (ltb (length s) at) outside (cond (ltb (length s - at) (length text)) narrow room)

-- StartOutside, NoRoom with the text's length, or that length
abbrev pub answer : List ℕ → ℕ → List ℕ → Outcome ℕ
answer s at text = by_room s at text (refuses (refusal 12 [])) (refuses (refusal 13 (pos (length text) ∷ []))) (gives (length text))

-- the line as it was, or with the text in its place
abbrev pub line_after : List ℕ → ℕ → List ℕ → List ℕ
line_after s at text = by_room s at text s s (take at s ++ text ++ drop (at + length text) s)
