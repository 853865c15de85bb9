-- What the machine's signed operations ask for and leave behind, and the rules by which `omega` answers it.
use Rattle.std.proofs.Common.{◌≡◌, ℕ, suc, ◌+◌, ◌-◌, ◌*◌, ◌/◌, ◌%◌, ◌^◌, ◌<◌, ◌≤◌, max, Bool, true, false, T, ltb, ℤ, pos, negsuc, ◌+ℤ◌, ◌-ℤ◌, ◌*ℤ◌, nat_abs, sym, ap, ◌∙◌, subst, mul-le-mul_right, arith, lit≤, ltb→lt, w8, w16, w32, w64, Fits, SFits, to_z, of_z, le-ltb}
use lib.Signed.{mag, lt_z, non_neg, quot_z, rem_z, pos-nat_abs}
use mir.Syntax.{Width, w128}
use mir.Val.{sel, hbits, bits}
use mir.ValLaws.{to_z-of_z, to_z_pos}
use Rattle.integers.proofs.Signed.{plus, minus, Is, apart, size_law, eq_z, plus≡, minus≡, add_law, diff_law, times_law, quot_law, rem_law, lt_true, lt_false, true_lt, false_lt}

-- ---- ranges
-- p - m fits, as one statement
abbrev pub Within : Width → ℕ → ℕ → Type 0
Within w p m = max (suc p - m) (m - p) ≤ 2 ^ hbits w

pub fit : (w : Width) (z : ℤ) → Within w (plus z) (minus z) → SFits w z
fit w (pos n) h = record { sfits = omega arith }
fit w (negsuc n) h = record { sfits = omega arith }

pub fit_add : (w : Width) (a b : ℤ) → Within w (plus a + plus b) (minus a + minus b) → SFits w (a +ℤ b)
fit_add w a b h = fit w (a +ℤ b) (omega (arith, add_law a b))

pub fit_sub : (w : Width) (a b : ℤ) → Within w (plus a + minus b) (minus a + plus b) → SFits w (a -ℤ b)
fit_sub w a b h = fit w (a -ℤ b) (omega (arith, diff_law a b))

pub fit_mul : (w : Width) (a : ℤ) (k : ℕ) → Within w (plus a * k) (minus a * k) → SFits w (a *ℤ pos k)
fit_mul w a k h = fit w (a *ℤ pos k) (omega (arith, times_law a k))

pub fit_quot : (w : Width) (a : ℤ) (k : ℕ) → Within w (plus a / k) (minus a / k) → SFits w (quot_z a (pos k))
fit_quot w a k h = fit w (quot_z a (pos k)) (omega (arith, quot_law a k))

-- an operation whose result is known to fit: what `omega` is to know of it
pub is_add : (w : Width) (a b : ℤ) → SFits w (a +ℤ b) → Is (a +ℤ b) (plus a + plus b) (minus a + minus b)
is_add w a b f = add_law a b

pub is_sub : (w : Width) (a b : ℤ) → SFits w (a -ℤ b) → Is (a -ℤ b) (plus a + minus b) (minus a + plus b)
is_sub w a b f = diff_law a b

pub is_mul : (w : Width) (a : ℤ) (k : ℕ) → SFits w (a *ℤ pos k) → Is (a *ℤ pos k) (plus a * k) (minus a * k)
is_mul w a k f = times_law a k

pub is_quot : (w : Width) (a : ℤ) (k : ℕ) → SFits w (quot_z a (pos k)) → Is (quot_z a (pos k)) (plus a / k) (minus a / k)
is_quot w a k f = quot_law a k

pub is_rem : (w : Width) (a : ℤ) (k : ℕ) → SFits w (rem_z a (pos k)) → Is (rem_z a (pos k)) (plus a % k) (minus a % k)
is_rem w a k f = rem_law a k

-- an equation that is known, and one that is wanted
pub known_eq : (a b : ℤ) → a ≡ b → plus a + minus b ≡ plus b + minus a
known_eq a b e = omega (arith, plus≡ e, minus≡ e)

pub known_add : (r a b : ℤ) → r ≡ a +ℤ b → Is r (plus a + plus b) (minus a + minus b)
known_add r a b e = omega (arith, add_law a b, plus≡ e, minus≡ e)

pub known_sub : (r a b : ℤ) → r ≡ a -ℤ b → Is r (plus a + minus b) (minus a + plus b)
known_sub r a b e = omega (arith, diff_law a b, plus≡ e, minus≡ e)

pub eq_add : (r a b : ℤ) → Is r (plus a + plus b) (minus a + minus b) → r ≡ a +ℤ b
eq_add r a b h = eq_z r (a +ℤ b) (omega (arith, add_law a b))

pub eq_sub : (r a b : ℤ) → Is r (plus a + minus b) (minus a + plus b) → r ≡ a -ℤ b
eq_sub r a b h = eq_z r (a -ℤ b) (omega (arith, diff_law a b))

-- a cast to an unsigned type
pub cast_sign : (z : ℤ) → minus z ≤ plus z → T (non_neg z)
cast_sign (pos n) h = tt
cast_sign (negsuc n) h = absurd (omega arith)

pub cast-size : (z : ℤ) → T (non_neg z) → nat_abs z + minus z ≡ plus z
cast-size (pos n) h = omega arith
cast-size (negsuc n) h = absurd h

pub cast_fits : (w : Width) (z : ℤ) → max (plus z - minus z) (minus z - plus z) < 2 ^ bits w → Fits w (nat_abs z)
cast_fits w (pos n) h = record { fits = omega arith }
cast_fits w (negsuc n) h = record { fits = omega arith }

pub ruleset signed = (
  lt_true,
  lt_false,
  true_lt,
  false_lt,
  is_sub,
  is_add,
  is_mul,
  is_quot,
  is_rem,
  fit_sub,
  fit_add,
  fit_mul,
  fit_quot,
  fit,
  known_sub,
  known_add,
  known_eq,
  eq_sub,
  eq_add,
  eq_z,
  cast_sign,
  cast_fits,
  cast-size,
)

-- ---- what `omega` is handed of a number that fits: its range, and that the machine reads it back
pub record Known (w : Width) (z : ℤ) : Type 0 where
  pub self : SFits w z
  pub top : plus z < 2 ^ hbits w
  pub low : minus z ≤ 2 ^ hbits w
  pub top_back : plus (to_z w (of_z w z)) ≡ plus z
  pub low_back : minus (to_z w (of_z w z)) ≡ minus z

top_of : (w : Width) (z : ℤ) → SFits w z → plus z < 2 ^ hbits w
top_of w (pos n) f = f.sfits
top_of w (negsuc n) f = omega (arith, f.sfits)

low_of : (w : Width) (z : ℤ) → SFits w z → minus z ≤ 2 ^ hbits w
low_of w (pos n) f = omega arith
low_of w (negsuc n) f = f.sfits

pub known : {w : Width} {z : ℤ} → SFits w z → Known w z
known {w} {z} f =
    record { self = f; top = top_of w z f; low = low_of w z f; top_back = ap plus (to_z-of_z w z f); low_back = ap minus (to_z-of_z w z f) }

-- the same of a call's result, from what its `.ok` says
pub known64 : (z : ℤ) → mag z < 2 ^ 63 → Known w64 z
known64 z h = known (record { sfits = h })

-- a number that is not below 0, as the machine casts it
pub natural : {w : Width} {z : ℤ} → SFits w z → lt_z (to_z w (of_z w z)) (pos 0) ≡ false → z ≡ pos (nat_abs (to_z w (of_z w z)))
natural {w} {z} f e = sym (to_z-of_z w z f) ∙ sym (pos-nat_abs (to_z w (of_z w z)) (cast_sign (to_z w (of_z w z)) (omega (arith, lt_false))))

-- two numbers that fit, with their sum and their difference
pub record Two (w : Width) (a b : ℤ) : Type 0 where
  pub left : Known w a
  pub right : Known w b
  pub sum : Is (a +ℤ b) (plus a + plus b) (minus a + minus b)
  pub difference : Is (a -ℤ b) (plus a + minus b) (minus a + plus b)

pub two : {w : Width} {a b : ℤ} → SFits w a → SFits w b → Two w a b
two {w} {a} {b} f g = record { left = known f; right = known g; sum = add_law a b; difference = diff_law a b }

-- ---- sizes along a computation, where the exact values would be too much for `omega`
pub record Small (b : ℕ) (z : ℤ) : Type 0 where
  pub top : plus z ≤ b
  pub low : minus z ≤ b

pub small_size : {b : ℕ} {z : ℤ} → nat_abs z ≤ b → Small b z
small_size {z = z} h = record { top = omega (arith, size_law z); low = omega (arith, size_law z) }

pub small_pos : {b : ℕ} (n : ℕ) → n ≤ b → Small b (pos n)
small_pos n h = record { top = h; low = omega arith }

pub small_add : {m n : ℕ} {a b : ℤ} → Small m a → Small n b → Small (m + n) (a +ℤ b)
small_add {a = a} {b = b} s t = record { top = omega (arith, add_law a b, apart (a +ℤ b), s.top, t.top); low = omega (arith, add_law a b, apart (a +ℤ b), s.low, t.low) }

pub small_sub : {m n : ℕ} {a b : ℤ} → Small m a → Small n b → Small (m + n) (a -ℤ b)
small_sub {a = a} {b = b} s t = record { top = omega (arith, diff_law a b, apart (a -ℤ b), s.top, t.low); low = omega (arith, diff_law a b, apart (a -ℤ b), s.low, t.top) }

pub small_mul : {m : ℕ} {a : ℤ} (k : ℕ) → Small m a → Small (m * k) (a *ℤ pos k)
small_mul {m} {a} k s =
    let l = mul-le-mul_right k s.top in
    let h = mul-le-mul_right k s.low in
    record { top = omega (arith, times_law a k, apart (a *ℤ pos k)); low = omega (arith, times_law a k, apart (a *ℤ pos k)) }

pub small_fits : {w : Width} {b : ℕ} {z : ℤ} → T (ltb b (2 ^ hbits w)) → Small b z → SFits w z
small_fits {w} {b} {z} t s = fit w z (omega (arith, ltb→lt b (2 ^ hbits w) t, s.top, s.low))

-- ---- a number's bits
half≤ : (w : Width) → 2 ^ hbits w ≤ 2 ^ bits w
half≤ w8 = lit≤ tt
half≤ w16 = lit≤ tt
half≤ w32 = lit≤ tt
half≤ w64 = lit≤ tt
half≤ w128 = lit≤ tt

of_neg : (w : Width) (z : ℤ) → minus z ≤ 2 ^ hbits w → plus z < minus z → (of_z w z + minus z ≡ 2 ^ bits w) × (plus z ≡ 0)
of_neg w (pos n) f h = absurd (omega arith)
of_neg w (negsuc n) f h = omega (arith, half≤ w)

pub bits_neg : {w : Width} {z : ℤ} → SFits w z → plus z < minus z → (of_z w z + minus z ≡ 2 ^ bits w) × (plus z ≡ 0)
bits_neg {w} {z} f h = of_neg w z (low_of w z f) h

of_pos : (w : Width) (z : ℤ) → minus z ≤ plus z → (of_z w z ≡ plus z) × (minus z ≡ 0)
of_pos w (pos n) h = omega arith
of_pos w (negsuc n) h = absurd (omega arith)

pub bits_pos : {w : Width} {z : ℤ} → SFits w z → minus z ≤ plus z → (of_z w z ≡ plus z) × (minus z ≡ 0)
bits_pos {w} {z} f h = of_pos w z h

-- bits read as a signed number
sel_ind : (c : Bool) (x y : ℤ) (P : ℤ → Type 0) → c ≡ false → P y → P (sel c x y)
sel_ind true x y P e p = absurd (subst T e tt)
sel_ind false x y P e p = p

pub read_pos : (w : Width) (n : ℕ) → n < 2 ^ hbits w → (plus (to_z w n) ≡ n) × (minus (to_z w n) ≡ 0)
read_pos w n h = (ap plus (to_z_pos w n h), ap minus (to_z_pos w n h))

pub read_neg : (w : Width) (n : ℕ) → 2 ^ hbits w ≤ n → n < 2 ^ bits w → (plus (to_z w n) ≡ 0) × (minus (to_z w n) + n ≡ 2 ^ bits w)
read_neg w n h k =
    sel_ind (ltb n (2 ^ hbits w)) (pos n) (negsuc (2 ^ bits w - suc n)) (λ z. (plus z ≡ 0) × (minus z + n ≡ 2 ^ bits w)) (le-ltb n (2 ^ hbits w) h)
    (omega arith)
