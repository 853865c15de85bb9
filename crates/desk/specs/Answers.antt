-- The answer line of a request.
use Rattle.std.specs.Prelude.{cond, List, [], ◌∷◌, ◌++◌, ℕ, ◌+◌, ltb, length, take, drop}
use Rattle.words.specs.Words.{word_length}
use Rattle.answers.specs.Answers.{malformed}
use Rattle.desk.specs.Verbs.{rows, by_verb}

-- the line, without its end: no request has more than 65,535 bytes
unfoldable pub answer_text : List ℕ → List ℕ
answer_text s = cond (ltb 65535 (length s)) malformed (by_verb (take (word_length s) s) (drop (word_length s) s) rows)

-- how many bytes are written, and what the lent bytes are then: the line and its LF (10) in front, or, where room for
-- 128 bytes more than the request is not there, nothing
unfoldable pub answered : List ℕ → List ℕ → ℕ × List ℕ
answered s out = cond (ltb (length out) (length s + 128)) (0, out) (length written, written ++ drop (length written) out)
  where
    written : List ℕ
    written = answer_text s ++ (10 ∷ [])
