-- The printed year and the printed fields read back, each with the rest behind its delimiter.
use mathlib.Core.Path.{◌≡◌, refl, sym, ap, ◌∙◌}
use mathlib.Core.Bool.{Bool, true, false, and-eq-true_iff}
use mathlib.Core.List.{List, [], ◌∷◌, ◌++◌, append-nil}
use Prim.Native.Nat.{ℕ, suc, ◌^◌, ◌<◌, ◌≤◌}
use native.Mathlib.Omega.{arith}
use lib.ListN.{length, length-append}
use lib.Seq.{drop-append-add, take-append_seam, take_all}
use borrow.Author.Tests.{le-leb, lt-ltb, ne_eqb}
use Rattle.decimals.specs.Numbers.{begins_with, is_digit, all_digits, decimal_after}
use Rattle.fields.specs.Fields.{is_delimiter, width, before, delimited, behind, two_digits, nanoseconds, seconds}
use Rattle.stages.specs.Text.{Parsed, field, from_month, with_sign, from_year, without_sign}
use Rattle.fields.specs.declared.Delimiter.{Delimiter}
use Rattle.fields.specs.declared.Delimiter.TheVariants.{Hyphen, SpaceOrT, Colon, Point}
use Rattle.fields.specs.declared.Field.TheVariants as Field
use Rattle.std.specs.Prelude.{Ok}
use Rattle.fields.proofs.Tenths.{good_fraction}
use Rattle.digits.specs.Digits.{digits}
use Rattle.digits.proofs.Decimal.{digits_length}
use Rattle.printed_parts.specs.Text.{pointed}
use Rattle.demands.proofs.DigitsBack.{all_digits_lem, digit_low, digit_high, number_digits, begins_not}

-- no digit is a delimiter
no_delimiter : (d : Delimiter) (x : ℕ) → is_digit x ≡ true → is_delimiter d x ≡ false
unfolding is_delimiter
no_delimiter Hyphen x h = ne_eqb x 45 (λ q. omega (arith, digit_low x h))
no_delimiter SpaceOrT x h =
    rw (ne_eqb x 32 (λ q. omega (arith, digit_low x h)), ne_eqb x 84 (λ q. omega (arith, digit_high x h)), ne_eqb x 116 (λ q. omega (arith, digit_high x h)))
no_delimiter Colon x h = ne_eqb x 58 (λ q. omega (arith, digit_high x h))
no_delimiter Point x h = ne_eqb x 46 (λ q. omega (arith, digit_low x h))

-- ---- a delimiter y behind digits a
width_digits : (d : Delimiter) (a : List ℕ) (y : ℕ) (r : List ℕ) → is_delimiter d y ≡ true → all_digits a ≡ true → width d (a ++ (y ∷ r)) ≡ length a
unfolding width all_digits
width_digits d [] y r is h = rw is
width_digits d (x ∷ a) y r is h = let k = (and-eq-true_iff (is_digit x) (all_digits a)).0 h in rw (no_delimiter d x k.0) (ap suc (width_digits d a y r is k.1))

module _ (d : Delimiter) (a : List ℕ) (y : ℕ) (r : List ℕ) (is : is_delimiter d y ≡ true) (h : all_digits a ≡ true) where
  behind_digits : behind d (a ++ (y ∷ r)) ≡ r
  behind_digits = rw (width_digits d a y r is h) (drop-append-add a (y ∷ r) 1)

  before_digits : before d (a ++ (y ∷ r)) ≡ a
  before_digits = rw (width_digits d a y r is h) (take-append_seam a (y ∷ r))

  delimited_digits : delimited d (a ++ (y ∷ r)) ≡ true
  delimited_digits = rw (width_digits d a y r is h) (lt-ltb (length a) (length (a ++ (y ∷ r))) (omega (arith, length-append a (y ∷ r))))

-- no delimiter behind them
width_all : (d : Delimiter) (a : List ℕ) → all_digits a ≡ true → width d a ≡ length a
unfolding width all_digits
width_all d [] h = refl
width_all d (x ∷ a) h = let k = (and-eq-true_iff (is_digit x) (all_digits a)).0 h in rw (no_delimiter d x k.0) (ap suc (width_all d a k.1))

-- ---- a field of two digits
module _ (d : Delimiter) (v : ℕ) (small : v < 100) where
  two_back : (y : ℕ) (r : List ℕ) → is_delimiter d y ≡ true → two_digits d (digits 2 v ++ (y ∷ r)) ≡ Ok (Field.Got v)
  unfolding two_digits
  two_back y r is =
      let h = all_digits_lem 2 v in
      rw (delimited_digits d (digits 2 v) y r is h, before_digits d (digits 2 v) y r is h, width_digits d (digits 2 v) y r is h, digits_length 2 v, number_digits 99 2 v (omega arith) small (omega arith))

  pub field_back : (y : ℕ) (r : List ℕ) (next : ℕ → List ℕ → Parsed) → is_delimiter d y ≡ true → field d (digits 2 v ++ (y ∷ r)) next ≡ next v r
  unfolding field
  field_back y r next is = rw (two_back y r is, behind_digits d (digits 2 v) y r is (all_digits_lem 2 v))

  two_last : two_digits d (digits 2 v) ≡ Ok (Field.Last v)
  unfolding two_digits
  two_last =
      let w : width d (digits 2 v) ≡ 2 = width_all d (digits 2 v) (all_digits_lem 2 v) ∙ digits_length 2 v in
      rw (w, digits_length 2 v, take_all 2 (digits 2 v) (omega (arith, digits_length 2 v)), number_digits 99 2 v (omega arith) small (omega arith))

-- ---- the seconds, and what follows them
point_is : is_delimiter Point 46 ≡ true
unfolding is_delimiter
point_is = refl

none : 0 ≡ nanoseconds []
unfolding nanoseconds decimal_after
none = refl

pub seconds_back : (v : ℕ) → v < 100 → (t : List ℕ) (n : ℕ) → all_digits t ≡ true → nanoseconds t ≡ n → seconds (digits 2 v ++ pointed t) ≡ Ok (record { sec = v; nano = n })
unfolding seconds
seconds_back v h [] n d e = rw (append-nil, two_last Point v h) (ap (λ k. Ok (record { sec = v; nano = k })) (none ∙ e))
seconds_back v h (x ∷ t) n d e =
    rw (two_back Point v h 46 (x ∷ t) point_is, behind_digits Point (digits 2 v) 46 (x ∷ t) point_is (all_digits_lem 2 v))
    (sym (good_fraction v (x ∷ t) (omega arith) d e))

-- ---- the year
hyphen_is : is_delimiter Hyphen 45 ≡ true
unfolding is_delimiter
hyphen_is = refl

module _ (limit w n : ℕ) (wide : 4 ≤ w) (holds : n < 10 ^ w) (to : n ≤ limit) (r : List ℕ) where
  pub year_back : (negative : Bool) → from_year limit negative (digits w n ++ (45 ∷ r)) ≡ from_month (with_sign negative n) r
  unfolding from_year
  year_back negative =
      let a = digits w n in
      let h = all_digits_lem w n in
      rw (delimited_digits Hyphen a 45 r hyphen_is h, before_digits Hyphen a 45 r hyphen_is h, behind_digits Hyphen a 45 r hyphen_is h, width_digits Hyphen a 45 r hyphen_is h, digits_length w n, le-leb 4 w wide, number_digits limit w n (omega arith) holds to)

  -- digits have no sign in front
  pub no_sign : without_sign (digits w n ++ r) ≡ digits w n ++ r
  unfolding without_sign
  no_sign =
      let l : 0 < length (digits w n) = omega (arith, digits_length w n) in
      rw (begins_not 43 (digits w n) r (omega arith) l (all_digits_lem w n), begins_not 45 (digits w n) r (omega arith) l (all_digits_lem w n))

  pub no_minus : begins_with 45 (digits w n ++ r) ≡ false
  no_minus = begins_not 45 (digits w n) r (omega arith) (omega (arith, digits_length w n)) (all_digits_lem w n)
