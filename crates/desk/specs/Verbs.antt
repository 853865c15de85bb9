-- The table of verbs: for each its word, the kinds of the words behind it, and what it answers.
use Rattle.std.specs.Prelude.{cond, Option, Some, None, List, [], ◌∷◌, ◌++◌, map, ℕ}
use Prim.Native.String.{String}
use Rattle.errors.specs.Refusals.{Outcome, gives}
use Rattle.counts.specs.Counts.{good_nanos, new_time, from_date_time, from_unix, to_unix, over_epoch, added, taken, since, compared}
use Rattle.reader.specs.Stamp.{read_text, year_limit}
use Rattle.printer.specs.Display.{time_text, displayed}
use Rattle.texts.specs.Texts.{bytes, alike, natural, integer}
use Rattle.texts.specs.Hex.{hex_text}
use Rattle.words.specs.declared.kinds.Kind.TheVariants as Kind
use Rattle.words.specs.declared.kinds.Kind.TheVariants.{I64, I32, U64, U32, U8, Precision, Hex}
use Rattle.desk.specs.declared.verbs.Verb.{Verb}
use Rattle.desk.specs.declared.verbs.Verb.TheVariants.{Print, Line, New, Date, Unix, ToUnix, Epoch, Add, Sub, Since, Compare, Read, ReadHex}
use Rattle.words.specs.Words.{by_word}
use Rattle.words.specs.Rows.{Kinds, end, rest, ◌▸◌, Answer, answer_to}
use Rattle.words.specs.Places.{given}
use Rattle.answers.specs.Answers.{line, time_line, duration_line, order_text, malformed}

-- the answer with lent bytes, which stand last as they are then
abbrev pub lent_line : Outcome ℕ × List ℕ → List ℕ
lent_line o = line natural o.0 ++ bytes " " ++ hex_text o.1

-- a verb: its word, the kinds of the words behind it, and the answer to such words (`start`: the epoch, in seconds from 1970)
pub data Row : Type 0 where
  row : String → (kinds : Kinds) → Answer kinds → Row

abbrev pub row_of : Verb → Row
row_of Print = row "print" (Kind.Epoch ▸ I64 ▸ U32 ▸ Precision ▸ end) (λ start secs nanos digits. line (λ text. text) (good_nanos nanos (gives (time_text secs nanos start digits))))
row_of Line = row "line" (Kind.Epoch ▸ I64 ▸ U32 ▸ Precision ▸ U64 ▸ Hex ▸ end) (λ start secs nanos digits at lent. lent_line (displayed secs nanos start digits lent at))
row_of New = row "new" (I64 ▸ U32 ▸ end) (λ secs nanos. time_line (new_time secs nanos))
row_of Date = row "date" (Kind.Epoch ▸ I32 ▸ U8 ▸ U8 ▸ U8 ▸ U8 ▸ U8 ▸ U32 ▸ end) (λ start year month day hour min sec nanos. time_line (from_date_time start year month day hour min sec nanos))
row_of Unix = row "unix" (Kind.Epoch ▸ I64 ▸ U32 ▸ I64 ▸ end) (λ start unix nanos leap. time_line (from_unix start unix nanos leap))
row_of ToUnix = row "to-unix" (Kind.Epoch ▸ I64 ▸ U32 ▸ I64 ▸ end) (λ start secs nanos leap. line integer (to_unix start secs nanos leap))
row_of Epoch = row "epoch" (Kind.Epoch ▸ Kind.Epoch ▸ I64 ▸ U32 ▸ end) (λ from to secs nanos. time_line (over_epoch from to secs nanos))
row_of Add = row "add" (I64 ▸ U32 ▸ U64 ▸ U32 ▸ end) (λ secs nanos durationSecs durationNanos. time_line (added secs nanos durationSecs durationNanos))
row_of Sub = row "sub" (I64 ▸ U32 ▸ U64 ▸ U32 ▸ end) (λ secs nanos durationSecs durationNanos. time_line (taken secs nanos durationSecs durationNanos))
row_of Since = row "since" (I64 ▸ U32 ▸ I64 ▸ U32 ▸ end) (λ secs nanos fromSecs fromNanos. duration_line (since secs nanos fromSecs fromNanos))
row_of Compare = row "compare" (I64 ▸ U32 ▸ I64 ▸ U32 ▸ end) (λ secs nanos otherSecs otherNanos. line order_text (compared secs nanos otherSecs otherNanos))
row_of Read = row "read" (Kind.Epoch ▸ rest) (λ start text. time_line (read_text year_limit start text))
row_of ReadHex = row "read-hex" (Kind.Epoch ▸ Hex ▸ end) (λ start text. time_line (read_text year_limit start text))

abbrev pub verbs : List Verb
verbs = Print ∷ Line ∷ New ∷ Date ∷ Unix ∷ ToUnix ∷ Epoch ∷ Add ∷ Sub ∷ Since ∷ Compare ∷ Read ∷ ReadHex ∷ []

abbrev pub rows : List Row
rows = map row_of verbs

-- what is answered to a word and what stands behind it
abbrev pub by_verb : List ℕ → List ℕ → List Row → List ℕ
by_verb word s [] = malformed
by_verb word s (row verb kinds answer ∷ rows) = cond (alike word (bytes verb)) (answer_to kinds answer malformed s) (by_verb word s rows)

-- for the code: the verb that a word is, the kinds that its row asks, and its answer to words that are of these kinds
abbrev pub word_in : Row → String
word_in (row word kinds answer) = word

unfoldable pub verb_of : List ℕ → Option Verb
verb_of word = by_word word None (map (λ verb. (word_in (row_of verb), Some verb)) verbs)

abbrev pub kinds_in : Row → Kinds
kinds_in (row word kinds answer) = kinds

abbrev pub asked_by : Verb → Kinds
asked_by verb = kinds_in (row_of verb)

abbrev pub answer_by : Row → List ℕ → List ℕ
answer_by (row word kinds answer) s = given kinds answer 0 s

unfoldable pub answer_of : Verb → List ℕ → List ℕ
answer_of verb s = answer_by (row_of verb) s
