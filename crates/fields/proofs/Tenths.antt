-- The digits behind the point, of which each weighs a tenth of the one before it.
use mathlib.Core.Path.{◌≡◌, refl, sym, ap, ◌∙◌}
use mathlib.Core.List.{List, [], ◌∷◌}
use mathlib.Core.Bool.{true, false}
use Prim.Native.Nat.{ℕ, zero, suc, ◌+◌, ◌-◌, ◌*◌, ◌/◌, ◌^◌, ◌<◌, ◌≤◌}
use native.Mathlib.Nat.{zero-add, pow-suc}
use native.Mathlib.Numerals.{add-one}
use native.Mathlib.Omega.{arith}
use lib.ListN.{length, take, drop, get_or, drop_of_length-le, length-take}
use lib.Pow.{pow-add}
use lib.Seq.{drop-cons}
use borrow.Author.Tests.{lt-ltb}
use Rattle.decimals.specs.Numbers.{all_digits, decimal_after, decimal}
use Rattle.fields.specs.Fields.{nanoseconds, fraction}
use Rattle.errors.specs.declared.ParseDateTimeError.TheVariants.{MissingField, InvalidFieldValue}
use Rattle.std.specs.Prelude.{Ok, Err}

-- the first digit weighs w
unfoldable pub weighed : ℕ → List ℕ → ℕ
weighed w [] = 0
weighed w (x ∷ s) = (x - 48) * w + weighed (w / 10) s

-- a value in front of digits counts ten for each of them
decimal_after_lem : (n : ℕ) (s : List ℕ) → decimal_after n s ≡ n * 10 ^ length s + decimal s
unfolding decimal_after
decimal_after_lem n [] = omega arith
decimal_after_lem n (x ∷ s) = rw (decimal_after_lem (n * 10 + (x - 48)) s, decimal_after_lem (0 + (x - 48)) s, pow-suc 10 (length s)) (omega arith)

-- k digits, of which the last weighs 1
weighed_first : (k : ℕ) (s : List ℕ) → weighed (10 ^ k / 10) s ≡ decimal (take k s) * 10 ^ (k - length s)
unfolding weighed decimal_after
weighed_first zero [] = refl
weighed_first (suc k) [] = omega arith
weighed_first zero (x ∷ s) = rw (weighed_first zero s) (omega arith)
weighed_first (suc k) (x ∷ s) =
    let w : 10 ^ suc k / 10 ≡ 10 ^ k = rw pow-suc (omega arith) in
    let l : suc k - suc (length s) ≡ k - length s = omega arith in
    let p : 10 ^ k ≡ 10 ^ length (take k s) * 10 ^ (k - length s) = rw (← pow-add, length-take) (ap (λ n. 10 ^ n) (omega arith)) in
    rw (w, weighed_first k s, l, decimal_after_lem (0 + (x - 48)) (take k s), p) (omega arith)

pub weighed_nanoseconds : (s : List ℕ) → nanoseconds s ≡ weighed 100000000 s
unfolding nanoseconds
weighed_nanoseconds s = sym (weighed_first 9 s)

-- nine places, of which the first i made n and each other weighs a tenth of the one before it
unfoldable pub placed : ℕ → ℕ → List ℕ → ℕ
placed i n s = n * 10 ^ (9 - i) + weighed (10 ^ (9 - i) / 10) (drop i s)

pub placed_start : (s : List ℕ) → nanoseconds s ≡ placed 0 0 s
unfolding placed
placed_start s = weighed_nanoseconds s ∙ sym (zero-add _)

pub placed_end : (n : ℕ) (s : List ℕ) → placed 9 n s ≡ n
unfolding placed decimal_after
placed_end n s = rw (weighed_first 0 (drop 9 s)) (omega arith)

module _ (n : ℕ) (s : List ℕ) (i : ℕ) (low : i < 9) where
  ten : 10 ^ (9 - i) ≡ 10 ^ (9 - (i + 1)) * 10
  ten = ap (λ k. 10 ^ k) (omega arith) ∙ pow-suc 10 (9 - (i + 1))

  tenth : 10 ^ (9 - i) / 10 ≡ 10 ^ (9 - (i + 1))
  tenth = rw ten (omega arith)

  pub placed_more : i < length s → placed i n s ≡ placed (i + 1) (n * 10 + (get_or s i 0 - 48)) s
  unfolding placed weighed
  placed_more h = rw (tenth, ten, drop-cons s i 0 h, add-one) (omega arith)

  pub placed_past : length s ≤ i → placed i n s ≡ placed (i + 1) (n * 10) s
  unfolding placed weighed
  placed_past h = rw (tenth, ten, drop_of_length-le s h, drop_of_length-le s {i = i + 1} (omega arith)) (omega arith)

-- ---- what follows the point
module _ (sec : ℕ) (s : List ℕ) where
  pub no_fraction : length s ≡ 0 → Err MissingField ≡ fraction sec s
  unfolding fraction
  no_fraction h = rw h

  pub bad_fraction : 0 < length s → all_digits s ≡ false → Err InvalidFieldValue ≡ fraction sec s
  unfolding fraction
  bad_fraction h e = rw (lt-ltb 0 (length s) h, e)

  pub good_fraction : 0 < length s → all_digits s ≡ true → {n : ℕ} → nanoseconds s ≡ n → Ok (record { sec = sec; nano = n }) ≡ fraction sec s
  unfolding fraction
  good_fraction h e k = rw (lt-ltb 0 (length s) h, e, k)
