-- The lines of an input, and what is answered to them. An input is the list of its bytes; LF is 10.
use Rattle.std.specs.Prelude.{◌≡◌, Bool, true, cond, ◌&&◌, ◌||◌, List, [], ◌∷◌, ◌++◌, ℕ, ◌+◌, ◌<◌, ◌≤◌, min, eqb, ltb, length, take, drop}
use Rattle.words.specs.Bytes.{index_of}
use Rattle.lines.specs.declared.Answered.{Answered}

-- a byte in front of the first line
abbrev pub in_first : ℕ → List (List ℕ) → List (List ℕ)
in_first x [] = (x ∷ []) ∷ []
in_first x (line ∷ others) = (x ∷ line) ∷ others

-- a line ends in LF or with the input
unfoldable pub lines : List ℕ → List (List ℕ)
lines [] = []
lines (x ∷ s) = cond (eqb x 10) ([] ∷ lines s) (in_first x (lines s))

-- all lines but the first
abbrev pub others : List (List ℕ) → List (List ℕ)
others [] = []
others (line ∷ rest) = rest

-- an input of which the bytes s are there and others come later, or none where it has ended
abbrev pub input : Bool → List ℕ → List ℕ → List ℕ
input ended s later = s ++ cond ended [] later

-- a line of s can be answered: it has its LF, or more bytes than a request may have, or ends with the input
unfoldable pub ready : Bool → List ℕ → Bool
ready ended s = ltb (index_of 10 s) (length s) || (ltb 65535 (length s) || (ended && ltb 0 (length s)))

-- what is answered to a line is a text; behind each stands its LF
unfoldable pub answers_to : (List ℕ → List ℕ) → List (List ℕ) → List ℕ
answers_to answer [] = []
answers_to answer (line ∷ others) = answer line ++ (10 ∷ answers_to answer others)

-- the answers to an input; `within`: to one that starts within a line that is answered already
unfoldable pub answers : (List ℕ → List ℕ) → Bool → List ℕ → List ℕ
answers answer within s = answers_to answer (cond within (others (lines s)) (lines s))

-- r.used of the bytes s are done with, and r.written bytes of out hold answers
pub record Done (answer : List ℕ → List ℕ) (s : List ℕ) (within ended : Bool) (out out' : List ℕ) (r : Answered) : Type 0 where
  -- these and the answers to the rest are the answers to the whole, whatever comes later
  pub same : (later : List ℕ)
      → answers answer within (input ended s later) ≡ take r.written out' ++ answers answer r.within (input ended (drop r.used s) later)
  pub used_fits : r.used ≤ length s
  pub written_fits : r.written ≤ length out
  -- the bytes of out behind the answers are as they were
  pub behind : drop r.written out' ≡ drop r.written out

-- besides, a line that can be answered is, given room for 128 bytes more than it has, or than the 65,536 that tell a longer one
pub record Turn (answer : List ℕ → List ℕ) (s : List ℕ) (within ended : Bool) (out out' : List ℕ) (r : Answered) : Type 0 where
  pub done : Done answer s within ended out out' r
  pub progress : ready ended s ≡ true → min (index_of 10 s) 65536 + 128 ≤ length out → 0 < r.used
