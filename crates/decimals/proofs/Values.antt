-- Digits, one byte after the other, and the number that they write.
use mathlib.Core.Path.{◌≡◌, refl, sym, ◌∙◌}
use mathlib.Core.Bool.{Bool, true, false, cond, not, ◌&&◌, and-false, and-eq-true_iff}
use mathlib.Core.List.{List, [], ◌∷◌}
use Prim.Native.Nat.{ℕ, ◌+◌, ◌-◌, ◌*◌, ◌<◌, ◌≤◌}
use native.Mathlib.Nat.{le_trans, le_refl}
use native.Mathlib.Numerals.{add-one}
use native.Mathlib.Omega.{arith}
use lib.Dec.{leb, ltb}
use lib.ListN.{length, drop, get_or, drop_of_length-le}
use lib.Seq.{drop-cons}
use borrow.Author.Tests.{le-leb, lt-leb, lt-ltb, leb-true, not-false}
use Rattle.decimals.specs.Numbers.{is_digit, all_digits, decimal_after, decimal, number}
use Rattle.std.specs.Prelude.{Some, None}

-- what a loop knows of a byte that `is_digit_lem` let pass
pub record Digit (x : ℕ) : Type 0 where
  pub is : is_digit x ≡ true
  pub low : 48 ≤ x
  pub high : x ≤ 57

pub digit : {b : Bool} {x : ℕ} → b ≡ is_digit x → not b ≡ false → Digit x
unfolding is_digit
digit {b} {x} e h =
    let k = (and-eq-true_iff (leb 48 x) (leb x 57)).0 (sym e ∙ not-false b h) in
    record { is = sym e ∙ not-false b h; low = leb-true 48 x k.0; high = leb-true x 57 k.1 }

pub is_digit_lem : {x : ℕ} → is_digit x ≡ true → Digit x
is_digit_lem e = digit (sym e) refl

pub decimal_grows : (n : ℕ) (s : List ℕ) → n ≤ decimal_after n s
unfolding decimal_after
decimal_grows n [] = le_refl n
decimal_grows n (x ∷ s) = le_trans (omega arith) (decimal_grows (n * 10 + (x - 48)) s)

-- ---- from place i on
module _ (s : List ℕ) (i : ℕ) where
  pub digits_end : length s ≤ i → all_digits (drop i s) ≡ true
  unfolding all_digits
  digits_end h = rw (drop_of_length-le s h)

  pub decimal_end : (n : ℕ) → length s ≤ i → decimal_after n (drop i s) ≡ n
  unfolding decimal_after
  decimal_end n h = rw (drop_of_length-le s h)

module _ (s : List ℕ) (i : ℕ) (inside : i < length s) where
  pub digits_bad : is_digit (get_or s i 0) ≡ false → all_digits (drop i s) ≡ false
  unfolding all_digits
  digits_bad e = rw (drop-cons s i 0 inside, e)

  pub digits_more : is_digit (get_or s i 0) ≡ true → all_digits (drop i s) ≡ all_digits (drop (i + 1) s)
  unfolding all_digits
  digits_more e = rw (drop-cons s i 0 inside, e, add-one)

  pub decimal_more : (n : ℕ) → decimal_after n (drop i s) ≡ decimal_after (n * 10 + (get_or s i 0 - 48)) (drop (i + 1) s)
  unfolding decimal_after
  decimal_more n = rw (drop-cons s i 0 inside, add-one)

-- ---- the number
module _ (limit : ℕ) (s : List ℕ) where
  pub no_digit : length s ≡ 0 → None ≡ number limit s
  unfolding number
  no_digit h = rw h

  pub bad_digit : all_digits s ≡ false → None ≡ number limit s
  unfolding number
  bad_digit e = rw (e, and-false)

  pub too_large : limit < decimal s → None ≡ number limit s
  unfolding number
  too_large h = rw (lt-leb (decimal s) limit h, and-false)

  pub good_digits : 0 < length s → all_digits s ≡ true → decimal s ≤ limit → Some (decimal s) ≡ number limit s
  unfolding number
  good_digits h e k = rw (lt-ltb 0 (length s) h, e, le-leb (decimal s) limit k)

-- a number is at most its limit
small : (limit d v : ℕ) (a b : Bool) → leb d limit ≡ b → cond (a && b) (Some d) None ≡ Some v → v ≤ limit
small limit d v true true e h = let k : v ≡ d = cc in rw k (leb-true d limit e)
small limit d v true false e h = let k : v ≡ limit = cc in omega arith
small limit d v false b e h = let k : v ≡ limit = cc in omega arith

pub number_small : (limit : ℕ) (s : List ℕ) {v : ℕ} → number limit s ≡ Some v → v ≤ limit
unfolding number
number_small limit s {v} h = small limit (decimal s) v (ltb 0 (length s) && all_digits s) (leb (decimal s) limit) refl h

-- and has nothing but digits
middle_holds : (a b c : Bool) (d : ℕ) {v : ℕ} → cond (a && b && c) (Some d) None ≡ Some v → b ≡ true
middle_holds a true c d h = refl
middle_holds true false c d h = cc
middle_holds false false c d h = cc

pub number_all_digits : (limit : ℕ) (s : List ℕ) {v : ℕ} → number limit s ≡ Some v → all_digits s ≡ true
unfolding number
number_all_digits limit s h = middle_holds (ltb 0 (length s)) (all_digits s) (leb (decimal s) limit) (decimal s) h
