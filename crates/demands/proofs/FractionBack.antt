-- The printed fraction reads back: zeros left out at its end weigh nothing.
use mathlib.Core.Path.{◌≡◌, refl, ap, ◌∙◌}
use mathlib.Core.Bool.{Bool, true, false, cond, and-eq-true_iff}
use mathlib.Core.List.{List, [], ◌∷◌, ◌++◌}
use Prim.Native.Nat.{ℕ, zero, suc, ◌+◌, ◌-◌, ◌*◌, ◌/◌, ◌%◌, ◌^◌, ◌<◌}
use native.Mathlib.Nat.{pow-suc, pow-succ', mul_assoc, mul_comm, add-zero, div-div-eq-div-mul, mul-div_cancel, mul-add, one-le-pow, zero-mul, mul-one, one-mul, div-one}
use native.Mathlib.Omega.{arith}
use lib.Dec.{eqb, lit<}
use lib.ListN.{length}
use borrow.Author.Tests.{eqb-true}
use Rattle.decimals.specs.Numbers.{is_digit, all_digits}
use Rattle.fields.specs.Fields.{nanoseconds}
use Rattle.fields.proofs.Tenths.{weighed, weighed_nanoseconds}
use Rattle.digits.specs.Digits.{digits}
use Rattle.digits.proofs.Decimal.{digits_length}
use Rattle.printed_parts.specs.Text.{unless_last, trim}
use Rattle.demands.proofs.DigitsBack.{all_digits_lem}

-- a digit behind others weighs what is left of the first one's weight
weighed_snoc : (w : ℕ) (a : List ℕ) (x : ℕ) → weighed w (a ++ (x ∷ [])) ≡ weighed w a + (x - 48) * (w / 10 ^ length a)
unfolding weighed
weighed_snoc w [] x = rw div-one (omega arith)
weighed_snoc w (y ∷ a) x = rw (weighed_snoc (w / 10) a x, div-div-eq-div-mul, pow-succ') (omega arith)

digits_suc : (w n : ℕ) → digits (suc w) n ≡ digits w (n / 10) ++ ((48 + n % 10) ∷ [])
unfolding digits
digits_suc w n = refl

glue : (c q r n : ℕ) → n ≡ 10 * q + r → c * 10 * q + r * c ≡ c * n
glue c q r n e = rw (e, mul-add, mul_assoc, mul_comm r c)

one_digit : (c n : ℕ) → n < 10 → weighed (c * 1) (digits 1 n) ≡ c * n
unfolding weighed digits
one_digit c n h = let e : 48 + n % 10 - 48 ≡ n = omega arith in rw (e, mul-one, add-zero) (mul_comm n c)

-- w + 1 digits, the last of which weighs c
digits_weight : (c w n : ℕ) → n < 10 ^ suc w → weighed (c * 10 ^ w) (digits (suc w) n) ≡ c * n
digits_weight c zero n h = one_digit c n h
digits_weight c (suc w) n h =
    let p : n < 10 ^ suc w * 10 = rw pow-suc at h in
    let z : 48 + n % 10 - 48 ≡ n % 10 = omega arith in
    let u : c * 10 ^ suc w / 10 ^ suc w ≡ c = mul-div_cancel c (one-le-pow (suc w) 10 (lit< tt)) in
    let f : c * 10 ^ suc w ≡ c * 10 * 10 ^ w = rw (pow-succ', mul_assoc) in
    let i = digits_weight (c * 10) w (n / 10) (omega arith) in
    rw (digits_suc (suc w) n, weighed_snoc (c * 10 ^ suc w) (digits (suc w) (n / 10)) (48 + n % 10), digits_length (suc w) (n / 10), u, z)
    (ap (λ (k : ℕ). weighed k (digits (suc w) (n / 10)) + n % 10 * c) f ∙ ap (λ (k : ℕ). k + n % 10 * c) i ∙ glue c (n / 10) (n % 10) n (omega arith))

-- ---- without the zeros at the end
unless_last_weight : (w x : ℕ) (s : List ℕ) → weighed w (unless_last x s) ≡ (x - 48) * w + weighed (w / 10) s
unfolding weighed
unless_last_weight w x [] = go (eqb x 48) refl
  where
    go : (t : Bool) → eqb x 48 ≡ t → weighed w (cond t [] (x ∷ [])) ≡ (x - 48) * w + 0
    go true e = let z : x - 48 ≡ 0 = omega (arith, eqb-true x 48 e) in rw (z, zero-mul)
    go false e = refl
unless_last_weight w x (y ∷ s) = refl

trim_weight : (w : ℕ) (s : List ℕ) → weighed w (trim s) ≡ weighed w s
unfolding trim weighed
trim_weight w [] = refl
trim_weight w (x ∷ s) = unless_last_weight w x (trim s) ∙ ap (λ (k : ℕ). (x - 48) * w + k) (trim_weight (w / 10) s)

-- THE NANOSECONDS READ BACK
pub nanoseconds_trim : (n : ℕ) → n < 1000000000 → nanoseconds (trim (digits 9 n)) ≡ n
nanoseconds_trim n h = weighed_nanoseconds (trim (digits 9 n)) ∙ trim_weight 100000000 (digits 9 n) ∙ digits_weight 1 8 n h ∙ one-mul n

unless_last_digits : (x : ℕ) (s : List ℕ) → is_digit x ≡ true → all_digits s ≡ true → all_digits (unless_last x s) ≡ true
unfolding all_digits
unless_last_digits x [] h k = go (eqb x 48)
  where
    go : (t : Bool) → all_digits (cond t [] (x ∷ [])) ≡ true
    go true = refl
    go false = rw h
unless_last_digits x (y ∷ s) h k = rw h k

trim_keeps : (s : List ℕ) → all_digits s ≡ true → all_digits (trim s) ≡ true
unfolding all_digits trim
trim_keeps [] h = refl
trim_keeps (x ∷ s) h = let k = (and-eq-true_iff (is_digit x) (all_digits s)).0 h in unless_last_digits x (trim s) k.0 (trim_keeps s k.1)

pub trim_digits : (n : ℕ) → all_digits (trim (digits 9 n)) ≡ true
trim_digits n = trim_keeps (digits 9 n) (all_digits_lem 9 n)
