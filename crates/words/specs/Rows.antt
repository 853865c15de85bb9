-- A row: the kinds of the words behind a verb, and what is made of such words.
use Rattle.std.specs.Prelude.{cond, List, ℕ, eqb, length, drop, Option, Some, None}
use Rattle.decimals.specs.Numbers.{begins_with}
use Rattle.words.specs.Words.{field_length, field_word}
use Rattle.words.specs.Kinds.{Value, meaning}
use Rattle.words.specs.declared.kinds.Kind.{Kind}

-- words of their kinds, then the end of the line, or all that is left of it behind a blank
infixr 5 ◌▸◌
pub data Kinds : Type 0 where
  end : Kinds
  rest : Kinds
  ◌▸◌ : Kind → Kinds → Kinds

-- an answer to words of these kinds: each is one of its arguments
abbrev pub Answer : Kinds → Type 0
Answer end = List ℕ
Answer rest = List ℕ → List ℕ
Answer (kind ▸ kinds) = Value kind → Answer kinds

-- what is made of what a word says, or another answer where it says nothing
abbrev pub when_meant : {A : Type 0} → Option A → (A → List ℕ) → List ℕ → List ℕ
when_meant (Some v) answer other = answer v
when_meant None answer other = other

-- the answer to a line (32 is the blank); another one where the line is not of these kinds. Where no word is left the
-- empty one is asked, which says nothing (`no_empty_word` in `proofs/Places.antt`).
abbrev pub answer_to : (kinds : Kinds) → Answer kinds → List ℕ → List ℕ → List ℕ
answer_to end answer other s = cond (eqb (length s) 0) answer other
answer_to rest answer other s = cond (begins_with 32 s) (answer (drop 1 s)) other
answer_to (kind ▸ kinds) answer other s = when_meant (meaning kind (field_word s)) (λ v. answer_to kinds (answer v) other (drop (field_length s) s)) other
