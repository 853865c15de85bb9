-- Rows of digits: how long they are, and where they can be cut.
use mathlib.Core.Path.{◌≡◌, refl, sym, ap, ◌∙◌}
use mathlib.Core.List.{List, [], ◌∷◌, ◌++◌, append_assoc, append-nil}
use Prim.Native.Nat.{ℕ, zero, suc, ◌+◌, ◌-◌, ◌*◌, ◌/◌, ◌%◌, ◌^◌, ◌<◌, ◌≤◌}
use native.Mathlib.Nat.{pow-suc, pow-succ', pow-zero, div-one, div-div-eq-div-mul, add-suc, add-zero, mul_assoc, div-add-mod'}
use native.Mathlib.Omega.{arith}
use lib.Pow.{pow-add}
use lib.ListN.{length, length-append}
use lib.Seq.{sets}
use Rattle.digits.specs.Digits.{digits}
use Rattle.digits.proofs.Stores.{sets_append, sets_sets}

pub digits_length : (w n : ℕ) → length (digits w n) ≡ w
unfolding digits
digits_length zero n = refl
digits_length (suc w) n = length-append (digits w (n / 10)) _ ∙ rw (digits_length w (n / 10)) (omega arith)

-- what a multiple of 10 ^ w adds is not seen in the last w digits
above : (w q n : ℕ) → digits w (q * 10 ^ w + n) ≡ digits w n
unfolding digits
above zero q n = refl
above (suc w) q n =
    let x = q * 10 ^ w in
    let e : q * 10 ^ suc w ≡ x * 10 = rw pow-suc (sym (mul_assoc q (10 ^ w) 10)) in
    let d : (q * 10 ^ suc w + n) / 10 ≡ x + n / 10 = omega arith in
    let m : (q * 10 ^ suc w + n) % 10 ≡ n % 10 = omega arith in
    rw (d, m, above w q (n / 10))

-- the last w digits need no more of n than its last k
pub digits_low : (w k n : ℕ) → w ≤ k → digits w (n % 10 ^ k) ≡ digits w n
digits_low w k n h =
    let q = n / 10 ^ k in
    let i : k - w + w ≡ k = omega arith in
    let p : 10 ^ (k - w) * 10 ^ w ≡ 10 ^ k = sym (pow-add 10 (k - w) w) ∙ ap (λ x. 10 ^ x) i in
    let e : q * 10 ^ (k - w) * 10 ^ w ≡ q * 10 ^ k = mul_assoc q (10 ^ (k - w)) (10 ^ w) ∙ ap (λ x. q * x) p in
    sym (above w (q * 10 ^ (k - w)) (n % 10 ^ k)) ∙ rw (e, div-add-mod')

behind : (a b n : ℕ) → digits (a + b) n ≡ digits a (n / 10 ^ b) ++ digits b n
unfolding digits
behind a zero n = rw (add-zero, pow-zero, div-one, append-nil)
behind a (suc b) n = rw (add-suc, behind a b (n / 10), div-div-eq-div-mul, pow-succ', append_assoc)

-- the last b digits, and those before them
pub digits_split : (b w n : ℕ) → b ≤ w → digits w n ≡ digits (w - b) (n / 10 ^ b) ++ digits b (n % 10 ^ b)
digits_split b w n h =
    let e : w ≡ w - b + b = omega arith in
    ap (λ k. digits k n) e ∙ behind (w - b) b n ∙ rw (digits_low b b n (omega arith))

-- so may the last b digits
pub last_run_first : (b : ℕ) (l : List ℕ) (at w n : ℕ) → b ≤ w → sets l at (digits w n) ≡ sets (sets l (at + (w - b)) (digits b (n % 10 ^ b))) at (digits (w - b) (n / 10 ^ b))
last_run_first b l at w n h =
    let d = digits (w - b) (n / 10 ^ b) in
    let e = digits_length (w - b) (n / 10 ^ b) in
    ap (sets l at) (digits_split b w n h)
    ∙ sets_append l at d _
    ∙ rw e (sym (sets_sets l at d (at + (w - b)) (digits b (n % 10 ^ b)) (omega arith)))

-- both digits of a number below 100 as one number, whose low byte is the first
module _ (n : ℕ) (h : n < 100) where
  pair : 12336 + n * 256 - n / 10 * 2559 ≡ 48 + n / 10 % 10 + (48 + n % 10) * 256
  pair = omega arith

  first : (12336 + n * 256 - n / 10 * 2559) % 256 ≡ 48 + n / 10 % 10
  first = rw pair (omega arith)

  second : (12336 + n * 256 - n / 10 * 2559) / 256 % 256 ≡ 48 + n % 10
  second = rw pair (omega arith)

  pub pair_bytes : (12336 + n * 256 - n / 10 * 2559) % 256 ∷ (12336 + n * 256 - n / 10 * 2559) / 256 % 256 ∷ [] ≡ digits 2 n
  unfolding digits
  pair_bytes = rw (first, second)
