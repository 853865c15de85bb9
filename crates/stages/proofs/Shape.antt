-- A text of the usual shape: its year and its fields, read at their places.
use mathlib.Core.Path.{◌≡◌, sym, ap, ◌∙◌}
use mathlib.Core.Bool.{true, cond, ◌&&◌, ◌||◌, and-eq-true_iff}
use mathlib.Core.List.{List, [], ◌∷◌}
use Prim.Native.Nat.{ℕ, zero, suc, ◌+◌, ◌-◌, ◌*◌, ◌<◌, ◌≤◌}
use native.Mathlib.Nat.{add-zero, zero-add}
use native.Mathlib.Numerals.{add-one}
use native.Mathlib.Omega.{arith}
use native.Mathlib.Decide.{dec_lt}
use lib.Dec.{eqb, eqb→eq}
use lib.IntN.{pos}
use lib.ListN.{length, drop, get_or, length-drop, get_or-eq_default}
use lib.Seq.{drop-cons, drop-drop, get_or-drop}
use borrow.Author.Tests.{ne_eqb, le-leb, lt-ltb}
use Rattle.calendar.proofs.Table.{below}
use Rattle.decimals.specs.Numbers.{begins_with, is_digit, all_digits, pair_at, decimal_after, number}
use Rattle.fields.specs.Fields.{is_delimiter, width, two_digits, fraction, seconds}
use Rattle.fields.specs.declared.Delimiter.{Delimiter}
use Rattle.fields.specs.declared.Delimiter.TheVariants.{Hyphen, SpaceOrT, Colon, Point}
use Rattle.fields.specs.declared.Field.TheVariants as Field
use Rattle.std.specs.Prelude.{Ok}
use Rattle.decimals.proofs.Values.{Digit, is_digit_lem}
use Rattle.fields.proofs.Pairs.{other, pair_last, pair_got}
use Rattle.fields.proofs.Behind.{behind_two}
use Rattle.stages.specs.Usual.{usual_shape, fits_byte, fits, is_usual}
use Rattle.stages.specs.Text.{Parsed, field, on_seconds, from_month, from_year, without_sign, parsed}
use Rattle.stages.proofs.Stages.{read_on}

-- ---- what fits its place
-- the code's tests for the bytes of the shape
abbrev by_place : ℕ → ℕ
by_place p = cond (eqb p 4 || eqb p 7) 45 (cond (eqb p 10) 32 (cond (eqb p 13 || eqb p 16) 58 48))

pub shape_at : (p : ℕ) → get_or usual_shape p 48 ≡ by_place p
unfolding usual_shape
shape_at p = go (dec_lt p 19)
  where
    go : Dec (p < 19) → get_or usual_shape p 48 ≡ by_place p
    go (yes l) = eqb→eq _ _ (below (λ i. eqb (get_or usual_shape i 48) (by_place i)) 19 tt p l)
    go (no l) =
        rw (ne_eqb p 4 (λ e. omega arith), ne_eqb p 7 (λ e. omega arith), ne_eqb p 10 (λ e. omega arith), ne_eqb p 13 (λ e. omega arith), ne_eqb p 16 (λ e. omega arith))
        (get_or-eq_default usual_shape 48 {n = p} (omega arith))

shape_length : (i : ℕ) → i < 19 → i < length usual_shape
unfolding usual_shape
shape_length i l = omega arith

pub fits_step : (s : List ℕ) (i : ℕ) → i < length s → i < 19 → fits (drop i usual_shape) (drop i s) ≡ (fits_byte (get_or usual_shape i 48) (get_or s i 0) && fits (drop (i + 1) usual_shape) (drop (i + 1) s))
unfolding fits
fits_step s i h l = rw (drop-cons usual_shape i 48 (shape_length i l), drop-cons s i 0 h, add-one)

pub fits_long : (shape s : List ℕ) → fits shape s ≡ true → length shape ≤ length s
unfolding fits
fits_long [] s e = omega arith
fits_long (b ∷ shape) [] e = let z : ◌≡◌ {A = ℕ} 0 1 = cc in absurd (omega arith)
fits_long (b ∷ shape) (x ∷ s) e = omega (arith, fits_long shape s ((and-eq-true_iff (fits_byte b x) (fits shape s)).0 e).1)

fits_at : (shape s : List ℕ) (k : ℕ) → fits shape s ≡ true → k < length shape → fits_byte (get_or shape k 48) (get_or s k 0) ≡ true
unfolding fits
fits_at [] s k e h = absurd (omega arith)
fits_at (b ∷ shape) [] k e h = let z : ◌≡◌ {A = ℕ} 0 1 = cc in absurd (omega arith)
fits_at (b ∷ shape) (x ∷ s) zero e h = ((and-eq-true_iff (fits_byte b x) (fits shape s)).0 e).0
fits_at (b ∷ shape) (x ∷ s) (suc k) e h = fits_at shape s k ((and-eq-true_iff (fits_byte b x) (fits shape s)).0 e).1 (omega arith)

-- ---- the year
year : (limit a b c d e : ℕ) (s : List ℕ) → Digit a → Digit b → Digit c → Digit d → is_delimiter Hyphen e ≡ true → 9999 ≤ limit
    → parsed limit (a ∷ b ∷ c ∷ d ∷ e ∷ s) ≡ from_month (pos (((a - 48) * 10 + (b - 48)) * 100 + ((c - 48) * 10 + (d - 48)))) s
unfolding parsed without_sign from_year begins_with number all_digits decimal_after width
year limit a b c d e s ha hb hc hd he l =
    let plus = ne_eqb a 43 (λ q. omega (arith, ha.low)) in
    let minus = ne_eqb a 45 (λ q. omega (arith, ha.low)) in
    let n : (((a - 48) * 10 + (b - 48)) * 10 + (c - 48)) * 10 + (d - 48) ≡ ((a - 48) * 10 + (b - 48)) * 100 + ((c - 48) * 10 + (d - 48)) = omega arith in
    let v = le-leb (((a - 48) * 10 + (b - 48)) * 100 + ((c - 48) * 10 + (d - 48))) limit (omega (arith, ha.high, hb.high, hc.high, hd.high)) in
    let long = lt-ltb 4 (suc (suc (suc (suc (suc (length s)))))) (omega arith) in
    simp (plus, minus, other Hyphen ha, other Hyphen hb, other Hyphen hc, other Hyphen hd, he, long, ha.is, hb.is, hc.is, hd.is, zero-add, n, v)

-- ---- the fields, in their places
-- two digits stand there
abbrev pub Two : List ℕ → ℕ → Type 0
Two s i = (is_digit (get_or s i 0) ≡ true) × (is_digit (get_or s (i + 1) 0) ≡ true)

module _ (s : List ℕ) (i : ℕ) where
  pair_at_lem : pair_at (drop i s) 0 ≡ pair_at s i
  unfolding pair_at
  pair_at_lem = rw (get_or-drop i s 0 0, get_or-drop i s 1 0, add-zero)

  module _ (two : Two s i) where
    digit_first : is_digit (get_or (drop i s) 0 0) ≡ true
    digit_first = rw (get_or-drop, add-zero) two.0

    digit_second : is_digit (get_or (drop i s) 1 0) ≡ true
    digit_second = rw get_or-drop two.1

    last_at : (d : Delimiter) → length s ≡ i + 2 → two_digits d (drop i s) ≡ Ok (Field.Last (pair_at s i))
    last_at d e = rw (← pair_at_lem) (sym (pair_last d (drop i s) (rw length-drop (omega arith)) digit_first digit_second))

    got_at : (d : Delimiter) → i + 2 < length s → is_delimiter d (get_or s (i + 2) 0) ≡ true → two_digits d (drop i s) ≡ Ok (Field.Got (pair_at s i))
    got_at d h e = rw (← pair_at_lem) (sym (pair_got d (drop i s) (rw length-drop (omega arith)) digit_first digit_second (rw get_or-drop e)))

    on_from : (d : Delimiter) → i + 2 < length s → is_delimiter d (get_or s (i + 2) 0) ≡ true → (next : ℕ → List ℕ → Parsed) → field d (drop i s) next ≡ next (pair_at s i) (drop (i + 3) s)
    on_from d h e next = read_on d (drop i s) (got_at d h e) next ∙ rw drop-drop

-- the digits of a text of the usual shape
pub record Pairs (s : List ℕ) : Type 0 where
  pub long : 19 ≤ length s
  pub hundreds : Two s 0
  pub rest : Two s 2
  pub month : Two s 5
  pub day : Two s 8
  pub hour : Two s 11
  pub min : Two s 14
  pub sec : Two s 17

module _ (s : List ℕ) (u : is_usual s ≡ true) where
  shape : (fits usual_shape s ≡ true) × ((eqb (length s) 19 || is_delimiter Point (get_or s 19 0)) ≡ true)
  unfolding is_usual
  shape = (and-eq-true_iff (fits usual_shape s) (eqb (length s) 19 || is_delimiter Point (get_or s 19 0))).0 u

  usual_long : 19 ≤ length s
  unfolding usual_shape
  usual_long = fits_long usual_shape s shape.0

  usual_at : (k : ℕ) → k < 19 → fits_byte (get_or usual_shape k 48) (get_or s k 0) ≡ true
  unfolding usual_shape
  usual_at k h = fits_at usual_shape s k shape.0 h

  pub pairs : Pairs s
  unfolding usual_shape fits_byte
  pairs = record {
    long = usual_long;
    hundreds = (usual_at 0 (omega arith), usual_at 1 (omega arith));
    rest = (usual_at 2 (omega arith), usual_at 3 (omega arith));
    month = (usual_at 5 (omega arith), usual_at 6 (omega arith));
    day = (usual_at 8 (omega arith), usual_at 9 (omega arith));
    hour = (usual_at 11 (omega arith), usual_at 12 (omega arith));
    min = (usual_at 14 (omega arith), usual_at 15 (omega arith));
    sec = (usual_at 17 (omega arith), usual_at 18 (omega arith));
  }

  usual_year : (limit : ℕ) → 9999 ≤ limit → parsed limit s ≡ from_month (pos (pair_at s 0 * 100 + pair_at s 2)) (drop 5 s)
  unfolding usual_shape fits_byte is_delimiter pair_at
  usual_year limit l =
      let h = usual_long in
      let front : s ≡ get_or s 0 0 ∷ get_or s 1 0 ∷ get_or s 2 0 ∷ get_or s 3 0 ∷ get_or s 4 0 ∷ drop 5 s =
      drop-cons s 0 0 (omega arith) ∙ rw (drop-cons s 1 0 (omega arith), drop-cons s 2 0 (omega arith), drop-cons s 3 0 (omega arith), drop-cons s 4 0 (omega arith)) in
      ap (parsed limit) front ∙ year limit _ _ _ _ _ _ (is_digit_lem (usual_at 0 (omega arith))) (is_digit_lem (usual_at 1 (omega arith))) (is_digit_lem (usual_at 2 (omega arith))) (is_digit_lem (usual_at 3 (omega arith))) (usual_at 4 (omega arith)) l

  pub usual_parsed : (limit : ℕ) → 9999 ≤ limit
      → parsed limit s ≡ on_seconds (seconds (drop 17 s)) (λ sec nano. Ok (record { year = pos (pair_at s 0 * 100 + pair_at s 2); month = pair_at s 5; day = pair_at s 8; hour = pair_at s 11; min = pair_at s 14; sec = sec; nano = nano }))
  unfolding from_month usual_shape fits_byte is_delimiter
  usual_parsed limit l =
      let h = usual_long in
      usual_year limit l ∙ rw (
        on_from s 5 pairs.month Hyphen (omega arith) (usual_at 7 (omega arith)),
        on_from s 8 pairs.day SpaceOrT (omega arith) (usual_at 10 (omega arith)),
        on_from s 11 pairs.hour Colon (omega arith) (usual_at 13 (omega arith)),
        on_from s 14 pairs.min Colon (omega arith) (usual_at 16 (omega arith)),
      )

  pub seconds_last : length s ≡ 19 → seconds (drop 17 s) ≡ Ok (record { sec = pair_at s 17; nano = 0 })
  unfolding seconds usual_shape fits_byte
  seconds_last e = rw (last_at s 17 pairs.sec Point e)

  pub seconds_more : (length s ≡ 19 → ⊥) → seconds (drop 17 s) ≡ fraction (pair_at s 17) (drop 20 s)
  unfolding seconds usual_shape fits_byte
  seconds_more e =
      let h = usual_long in
      let g = got_at s 17 pairs.sec Point (omega arith) (rw (ne_eqb (length s) 19 e) at shape.1) in
      rw (behind_two Point (drop 17 s) g, drop-drop 3 17 s, g)
