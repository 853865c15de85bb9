-- Two digits at the front of a text: the byte behind them decides the field. Two bytes of another kind are no number.
use mathlib.Core.Path.{◌≡◌, refl}
use mathlib.Core.Bool.{Bool, true, false, cond, and-false}
use mathlib.Core.List.{List, [], ◌∷◌}
use mathlib.Core.Logic.{◌⊎◌, inl, inr}
use Prim.Native.Nat.{ℕ, suc, ◌+◌, ◌-◌, ◌*◌, ◌<◌, ◌≤◌}
use native.Mathlib.Nat.{zero-add}
use native.Mathlib.Omega.{arith}
use lib.Dec.{eqb}
use lib.ListN.{length, get_or}
use borrow.Author.Tests.{ne_eqb, le-leb, lt-ltb}
use Rattle.errors.specs.declared.ParseDateTimeError.TheVariants.{InvalidFieldWidth, InvalidFieldValue}
use Rattle.decimals.specs.Numbers.{is_digit, all_digits, pair_at, decimal_after, number}
use Rattle.fields.specs.Fields.{is_delimiter, width, two_digits}
use Rattle.std.specs.Prelude.{Some, Ok, Err}
use Rattle.fields.specs.declared.Delimiter.{Delimiter}
use Rattle.fields.specs.declared.Delimiter.TheVariants.{Hyphen, SpaceOrT, Colon, Point}
use Rattle.fields.specs.declared.Field.TheVariants.{Got, Last}
use Rattle.decimals.proofs.Values.{Digit, is_digit_lem, bad_digit}

-- no digit is a delimiter
pub other : (d : Delimiter) {x : ℕ} → Digit x → is_delimiter d x ≡ false
unfolding is_delimiter
other Hyphen {x} h = ne_eqb x 45 (λ e. omega (arith, h.low))
other SpaceOrT {x} h = rw (ne_eqb x 32 (λ e. omega (arith, h.low)), ne_eqb x 84 (λ e. omega (arith, h.high)), ne_eqb x 116 (λ e. omega (arith, h.high)))
other Colon {x} h = ne_eqb x 58 (λ e. omega (arith, h.high))
other Point {x} h = ne_eqb x 46 (λ e. omega (arith, h.low))

two : (x y : ℕ) → Digit x → Digit y → number 99 (x ∷ y ∷ []) ≡ Some ((x - 48) * 10 + (y - 48))
unfolding number all_digits decimal_after
two x y h k =
    let v = le-leb ((x - 48) * 10 + (y - 48)) 99 (omega (arith, h.high, k.high)) in
    simp (h.is, k.is, v, zero-add)

not_two : (x y : ℕ) → (is_digit x ≡ false) ⊎ (is_digit y ≡ false) → all_digits (x ∷ y ∷ []) ≡ false
unfolding all_digits
not_two x y (inl e) = rw e
not_two x y (inr e) = rw (e, and-false)

one : (b : Bool) → eqb (cond b 0 1) 2 ≡ false
one true = refl
one false = refl

pub pair_short : (d : Delimiter) (s : List ℕ) → length s < 2 → Err InvalidFieldWidth ≡ two_digits d s
unfolding two_digits width
pair_short d [] h = refl
pair_short d (x ∷ []) h = rw (one (is_delimiter d x))
pair_short d (x ∷ y ∷ s) h = absurd (omega arith)

module _ (d : Delimiter) where
  pub pair_last : (s : List ℕ) → length s ≡ 2 → is_digit (get_or s 0 0) ≡ true → is_digit (get_or s 1 0) ≡ true → Ok (Last (pair_at s 0)) ≡ two_digits d s
  unfolding two_digits width pair_at
  pair_last [] l h k = absurd (omega arith)
  pair_last (x ∷ []) l h k = absurd (omega arith)
  pair_last (x ∷ y ∷ []) l h k = let p = is_digit_lem h in let q = is_digit_lem k in simp (other d p, other d q, two x y p q)
  pair_last (x ∷ y ∷ z ∷ s) l h k = absurd (omega arith)

  pub pair_got : (s : List ℕ) → 2 < length s → is_digit (get_or s 0 0) ≡ true → is_digit (get_or s 1 0) ≡ true → is_delimiter d (get_or s 2 0) ≡ true → Ok (Got (pair_at s 0)) ≡ two_digits d s
  unfolding two_digits width pair_at
  pair_got [] l h k e = absurd (omega arith)
  pair_got (x ∷ []) l h k e = absurd (omega arith)
  pair_got (x ∷ y ∷ []) l h k e = absurd (omega arith)
  pair_got (x ∷ y ∷ z ∷ s) l h k e = let p = is_digit_lem h in let q = is_digit_lem k in simp (other d p, other d q, e, two x y p q, lt-ltb 2 (suc (suc (suc (length s)))) (omega arith))

  pub pair_wide : (s : List ℕ) → 2 < length s → is_digit (get_or s 0 0) ≡ true → is_digit (get_or s 1 0) ≡ true → is_delimiter d (get_or s 2 0) ≡ false → Err InvalidFieldWidth ≡ two_digits d s
  unfolding two_digits width
  pair_wide [] l h k e = absurd (omega arith)
  pair_wide (x ∷ []) l h k e = absurd (omega arith)
  pair_wide (x ∷ y ∷ []) l h k e = absurd (omega arith)
  pair_wide (x ∷ y ∷ z ∷ s) l h k e = simp (other d (is_digit_lem h), other d (is_digit_lem k), e, ne_eqb (suc (suc (suc (width d s)))) 2 (λ g. omega arith))

  pub pair_bad : (s : List ℕ) → 2 ≤ length s → width d s ≡ 2 → (is_digit (get_or s 0 0) ≡ false) ⊎ (is_digit (get_or s 1 0) ≡ false) → Err InvalidFieldValue ≡ two_digits d s
  unfolding two_digits
  pair_bad [] l w e = absurd (omega arith)
  pair_bad (x ∷ []) l w e = absurd (omega arith)
  pair_bad (x ∷ y ∷ s) l w e = rw (w, ← bad_digit 99 (x ∷ y ∷ []) (not_two x y e))
