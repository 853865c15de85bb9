-- A line as the code goes over it: the kinds of a row, what stands behind them, and each word by its place. That it comes
-- to the same as `Rows.antt` is `by_place` (`proofs/Places.antt`).
use Rattle.std.specs.Prelude.{Bool, true, ◌&&◌, List, [], ◌∷◌, ℕ, ◌+◌, eqb, pos, length, drop, Some}
use Rattle.std.specs.Option.{is_some, unwrap_or}
use Rattle.decimals.specs.Numbers.{begins_with}
use Rattle.texts.specs.Hex.{hex_bytes}
use Rattle.words.specs.Words.{field_length, field_word, rest_at, word_at}
use Rattle.words.specs.Kinds.{Value, meaning}
use Rattle.words.specs.declared.kinds.Kind.{Kind}
use Rattle.words.specs.declared.kinds.Kind.TheVariants.{Epoch, I64, I32, U64, U32, U8, Precision, Hex}
use Rattle.words.specs.Rows.{Kinds, end, rest, ◌▸◌, Answer}
use Rattle.words.specs.declared.kinds.Tail.{Tail}
use Rattle.words.specs.declared.kinds.Tail.TheVariants.{End, Rest, Any}

-- a row's kinds, and what stands behind its words
abbrev pub kinds_of : Kinds → List Kind
kinds_of end = []
kinds_of rest = []
kinds_of (kind ▸ kinds) = kind ∷ kinds_of kinds

abbrev pub tail_of : Kinds → Tail
tail_of end = End
tail_of rest = Rest
tail_of (kind ▸ kinds) = tail_of kinds

-- what is in front of s is of a kind
unfoldable pub good : Kind → List ℕ → Bool
good kind s = is_some (meaning kind (field_word s))

-- what the tail asks of what is left: that it is empty, that a blank stands in front of it, or nothing (which no row of `Rows.antt` has)
abbrev pub ends : Tail → List ℕ → Bool
ends End s = eqb (length s) 0
ends Rest s = begins_with 32 s
ends Any s = true

-- behind a verb stand the words of a row: a blank and a word of its kind, each behind the one before
unfoldable pub fits : List Kind → Tail → List ℕ → Bool
fits [] tail s = ends tail s
fits (kind ∷ kinds) tail s = good kind s && fits kinds tail (drop (field_length s) s)

-- what the code takes where a word says nothing
abbrev where_nothing : (kind : Kind) → List ℕ → Value kind
where_nothing Epoch word = pos 0
where_nothing I64 word = pos 0
where_nothing I32 word = pos 0
where_nothing U64 word = 0
where_nothing U32 word = 0
where_nothing U8 word = 0
where_nothing Precision word = Some 0
where_nothing Hex word = hex_bytes word

-- the word i as a value of a kind
abbrev pub value : (kind : Kind) → ℕ → List ℕ → Value kind
value kind i s = unwrap_or (meaning kind (word_at i s)) (where_nothing kind (word_at i s))

-- the answer to the words from the place i on
abbrev pub given : (kinds : Kinds) → Answer kinds → ℕ → List ℕ → List ℕ
given end answer i s = answer
given rest answer i s = answer (drop 1 (rest_at i s))
given (kind ▸ kinds) answer i s = given kinds (answer (value kind i s)) (i + 1) s
