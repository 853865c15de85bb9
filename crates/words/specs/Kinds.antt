-- The kinds of words, and what a word of each kind says.
use Rattle.std.specs.Prelude.{cond, List, map, ℕ, ℤ, Option, Some, None}
use Rattle.std.specs.Option.{option_map}
use Prim.Native.String.{String}
use Rattle.texts.specs.Texts.{bytes, alike}
use Rattle.texts.specs.Hex.{is_hex, hex_bytes}
use Rattle.words.specs.Tables.{epoch_names, start_of}
use Rattle.words.specs.Words.{by_word}
use Rattle.words.specs.Numbers.{unsigned, signed}
use Rattle.words.specs.declared.kinds.Kind.{Kind}
use Rattle.words.specs.declared.kinds.Kind.TheVariants.{Epoch, I64, I32, U64, U32, U8, Precision, Hex}

-- the type of what a word says
abbrev pub Value : Kind → Type 0
Value Epoch = ℤ
Value I64 = ℤ
Value I32 = ℤ
Value U64 = ℕ
Value U32 = ℕ
Value U8 = ℕ
Value Precision = Option ℕ
Value Hex = List ℕ

-- the epochs that have names, in seconds from 1970
abbrev pub epochs : List (String × Option ℤ)
epochs = map (λ row. (row.0, option_map start_of row.1)) epoch_names

-- an i64, or a name
unfoldable pub epoch_of : List ℕ → Option ℤ
epoch_of word = by_word word (signed 9223372036854775807 word) epochs

-- what a word says, if it is one of a kind
abbrev pub meaning : (kind : Kind) → List ℕ → Option (Value kind)
meaning Epoch word = epoch_of word
meaning I64 word = signed 9223372036854775807 word
meaning I32 word = signed 2147483647 word
meaning U64 word = unsigned 18446744073709551615 word
meaning U32 word = unsigned 4294967295 word
meaning U8 word = unsigned 255 word
meaning Precision word = cond (alike word (bytes "-")) (Some None) (option_map Some (unsigned 18446744073709551615 word))
meaning Hex word = cond (is_hex word) (Some (hex_bytes word)) None
