-- A line by the kinds of a row and the places of its words is answered as by what each word says (`by_place`).
use mathlib.Core.Path.{◌≡◌, refl}
use mathlib.Core.Bool.{Bool, true, false, cond, ◌&&◌, ◌||◌}
use mathlib.Core.List.{List, []}
use Prim.Native.Nat.{ℕ, zero, suc, ◌+◌, ◌<◌, ◌≤◌}
use native.Mathlib.Numerals.{unary_clauses}
use native.Mathlib.Numerals.{add-one}
use lib.ListN.{length, drop, get_or, drop_of_length-le}
use lib.Seq.{drop-cons}
use Rattle.std.specs.Prelude.{Option, Some, None}
use Rattle.std.specs.Option.{is_some, unwrap_or, option_map}
use Rattle.decimals.specs.Numbers.{begins_with, number}
use Rattle.texts.specs.Texts.{bytes, alike}
use Rattle.texts.specs.Hex.{is_hex, hex_bytes}
use Rattle.words.specs.Words.{field_length, field_word, rest_at, word_at}
use Rattle.words.specs.Numbers.{unsigned, signed}
use Rattle.words.specs.Kinds.{Value, epoch_of, meaning}
use Rattle.words.specs.declared.kinds.Kind.{Kind}
use Rattle.words.specs.declared.kinds.Kind.TheVariants.{Epoch, I64, I32, U64, U32, U8, Precision, Hex}
use Rattle.words.specs.Rows.{Kinds, end, rest, ◌▸◌, Answer, when_meant, answer_to}
use Rattle.words.specs.Places.{kinds_of, tail_of, good, ends, fits, value, given}
use Rattle.words.specs.declared.kinds.Tail.{Tail}

-- ---- what a precision and HEX say
pub precision_meant : (word : List ℕ) → (alike word (bytes "-") || is_some (meaning U64 word)) ≡ is_some (meaning Precision word)
precision_meant word = go (alike word (bytes "-")) (meaning U64 word)
  where
    go : (b : Bool) (x : Option ℕ) → (b || is_some x) ≡ is_some (cond b (Some None) (option_map (λ (n : ℕ). Some n) x))
    go true x = refl
    go false (Some n) = refl
    go false None = refl

pub digits_or_none : (x : Option ℕ) → Some (unwrap_or x 0) ≡ unwrap_or (option_map (λ (n : ℕ). Some n) x) (Some 0)
digits_or_none (Some n) = refl
digits_or_none None = refl

module _ (l : List ℕ) where
  bytes_meant : (b : Bool) → b ≡ is_some (cond b (Some l) None)
  bytes_meant true = refl
  bytes_meant false = refl

  bytes_or_not : (b : Bool) → l ≡ unwrap_or (cond b (Some l) None) l
  bytes_or_not true = refl
  bytes_or_not false = refl

pub hex_meant : (word : List ℕ) → is_hex word ≡ is_some (meaning Hex word)
hex_meant word = bytes_meant (hex_bytes word) (is_hex word)

pub hex_value : (i : ℕ) (s : List ℕ) → hex_bytes (word_at i s) ≡ value Hex i s
hex_value i s = bytes_or_not (hex_bytes (word_at i s)) (is_hex (word_at i s))

-- ---- a row
-- a test of what a word says, of a kind
pub good_of : (s : List ℕ) {kind k : Kind} {word : List ℕ} {b : Bool} → kind ≡ k → word ≡ field_word s → b ≡ is_some (meaning k word) → b ≡ good kind s
unfolding good
good_of s {k = k} e f g = rw (e, ← f) g

module _ (kinds : List Kind) (tail : Tail) (s : List ℕ) (i : ℕ) (h : i < length kinds) where
  pub fits_not : good (get_or kinds i Epoch) s ≡ false → false ≡ fits (drop i kinds) tail s
  unfolding fits
  fits_not g = rw (drop-cons kinds i Epoch h, g)

  pub fits_more : good (get_or kinds i Epoch) s ≡ true → fits (drop i kinds) tail s ≡ fits (drop (i + 1) kinds) tail (drop (field_length s) s)
  unfolding fits
  fits_more g = rw (drop-cons kinds i Epoch h, g, add-one)

pub fits_end : (kinds : List Kind) (tail : Tail) (s : List ℕ) (i : ℕ) → length kinds ≤ i → fits (drop i kinds) tail s ≡ ends tail s
unfolding fits
fits_end kinds tail s i h = rw (drop_of_length-le kinds h)

-- ---- a line
pub rest_next : (i : ℕ) (s : List ℕ) → rest_at (i + 1) s ≡ drop (field_length (rest_at i s)) (rest_at i s)
unfolding rest_at
rest_next zero s = refl
rest_next (suc i) s = simp unary_clauses (simp unary_clauses at (rest_next i (drop (field_length s) s)))

pub no_empty_word : (kind : Kind) → meaning kind [] ≡ None
unfolding epoch_of signed unsigned begins_with number is_hex
no_empty_word Epoch = refl
no_empty_word I64 = refl
no_empty_word I32 = refl
no_empty_word U64 = refl
no_empty_word U32 = refl
no_empty_word U8 = refl
no_empty_word Precision = refl
no_empty_word Hex = refl

pub by_place : (kinds : Kinds) (answer : Answer kinds) (other : List ℕ) (i : ℕ) (s : List ℕ)
    → answer_to kinds answer other (rest_at i s) ≡ cond (fits (kinds_of kinds) (tail_of kinds) (rest_at i s)) (given kinds answer i s) other
unfolding fits good word_at
by_place end answer other i s = refl
by_place rest answer other i s = refl
by_place (kind ▸ kinds) answer other i s = rw (← rest_next i s) (go (λ v. by_place kinds (answer v) other (i + 1) s) _ (meaning kind (word_at i s)))
  where
    next : List ℕ
    next = rest_at (i + 1) s

    ok : Bool
    ok = fits (kinds_of kinds) (tail_of kinds) next

    go : ((v : Value kind) → answer_to kinds (answer v) other next ≡ cond ok (given kinds (answer v) (i + 1) s) other)
        → (d : Value kind) (m : Option (Value kind)) → when_meant m (λ v. answer_to kinds (answer v) other next) other ≡ cond (is_some m && ok) (given kinds (answer (unwrap_or m d)) (i + 1) s) other
    go h d (Some v) = h v
    go h d None = refl
