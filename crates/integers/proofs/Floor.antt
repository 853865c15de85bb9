-- Quotients that round down: `floor_div` and `floor_mod` are such a pair, the only one, and they keep the order.
use Rattle.std.proofs.Common.{◌≡◌, ℕ, suc, ◌+◌, ◌-◌, ◌*◌, ◌/◌, ◌%◌, ◌^◌, ◌<◌, ◌≤◌, ℤ, pos, negsuc, ◌+ℤ◌, ◌-ℤ◌, ◌*ℤ◌, nat_abs, ◌<ℤ◌, sym, ap, ◌∙◌, subst, le_trans, mul-le-mul_right, mod-lt, add-mul, one-mul, div-add-mod', le_of_mul-le-mul_right, arith, to_z-of_z, w64, SFits, to_z, of_z}
use Rattle.integers.specs.Integers.{Floor, whole, Proper, floor_div, floor_mod}
use Rattle.integers.specs.declared.Parts.{Parts}
use Rattle.integers.proofs.Machine.{Two, two}
use Rattle.integers.proofs.Signed.{plus, minus, Is, add_law, diff_law, times_law, eq_z, plus≡, minus≡, size_law, less, Tri, before, same, after, triℤ}

-- as `omega` reads it
abbrev pub Splits : ℕ → ℤ → ℤ → ℕ → Type 0
Splits k n q r = plus n + minus q * k ≡ plus q * k + r + minus n

pub whole_law : (k : ℕ) (q : ℤ) (r : ℕ) → Is (q *ℤ pos k +ℤ pos r) (plus q * k + r) (minus q * k)
whole_law k q r = omega (arith, add_law (q *ℤ pos k) (pos r), times_law q k)

pub to_floor : {k : ℕ} {n q : ℤ} {r : ℕ} → Splits k n q r → r < k → Floor k n q r
to_floor {k} {n} {q} {r} e s = record { whole = eq_z _ _ (omega (arith, whole_law k q r)); small = s }

pub splits : {k : ℕ} {n q : ℤ} {r : ℕ} → Floor k n q r → Splits k n q r
splits {k} {n} {q} {r} f = omega (arith, whole_law k q r, plus≡ f.whole, minus≡ f.whole)

-- THERE IS ONE
pub floor_law : (k : ℕ) (n : ℤ) → 0 < k → Floor k n (floor_div k n) (floor_mod k n)
unfolding floor_div floor_mod
floor_law k (pos n) h = to_floor (omega (arith, div-add-mod' n k)) (mod-lt n h)
floor_law k (negsuc n) h = to_floor (omega (arith, div-add-mod' n k, mod-lt n h)) (omega (arith, mod-lt n h))

-- a whole divisor stands between numbers whose quotients differ
ahead : {k : ℕ} {m n p q : ℤ} {r s : ℕ} → Floor k m p r → Floor k n q s → p <ℤ q → plus m + minus n < plus n + minus m
ahead {k} {m} {n} {p} {q} {r} {s} f g h =
    let l : (plus p + minus q + 1) * k ≤ (plus q + minus p) * k = mul-le-mul_right k (omega (arith, less h)) in
    omega (arith, splits f, splits g, f.small, g.small, add-mul (plus p + minus q) 1 k, add-mul (plus p) (minus q) k, add-mul (plus q) (minus p) k, one-mul k)

-- AND ONLY ONE
pub floor_one : {k : ℕ} {n p q : ℤ} {r s : ℕ} → Floor k n p r → Floor k n q s → (p ≡ q) × (r ≡ s)
floor_one {k} {n} {p} {q} {r} {s} f g = go (triℤ p q)
  where
    go : Tri (p <ℤ q) (p ≡ q) (q <ℤ p) → (p ≡ q) × (r ≡ s)
    go (before h) = absurd (omega (arith, ahead f g h))
    go (same e) = (e, omega (arith, splits f, splits g, ap (λ z. plus z * k) e, ap (λ z. minus z * k) e))
    go (after h) = absurd (omega (arith, ahead g f h))

-- the order of two numbers is that of their quotients, and then of their rests
pub floor_order : {k : ℕ} {m n p q : ℤ} {r s : ℕ} → Floor k m p r → Floor k n q s → m <ℤ n → Tri (p <ℤ q) ((p ≡ q) × (r < s)) ⊥
floor_order {k} {m} {n} {p} {q} {r} {s} f g l = go (triℤ p q)
  where
    go : Tri (p <ℤ q) (p ≡ q) (q <ℤ p) → Tri (p <ℤ q) ((p ≡ q) × (r < s)) ⊥
    go (before h) = before h
    go (same e) = same (e, omega (arith, less l, splits f, splits g, ap (λ z. plus z * k) e, ap (λ z. minus z * k) e))
    go (after h) = absurd (omega (arith, less l, ahead g f h))

-- ---- the two ways of `floor_split`: n is at least 0, or it is -1 - m
pub floor_up : {k : ℕ} {n q : ℤ} (m : ℕ) → 0 < k → n ≡ pos m → q ≡ pos (m / k) → Floor k n q (m % k)
unfolding floor_div floor_mod
floor_up {k} m h e f = rw (e, f) (floor_law k (pos m) h)

pub floor_down : {k : ℕ} {n q : ℤ} (m : ℕ) → 0 < k → n ≡ negsuc m → q ≡ negsuc (m / k) → Floor k n q (k - 1 - m % k)
unfolding floor_div floor_mod
floor_down {k} m h e f =
    let t : k - 1 - m % k ≡ k - suc (m % k) = omega arith in
    rw (e, f, t) (floor_law k (negsuc m) h)

-- ---- the way back of `floor_join`
pub join_down : (m k r : ℕ) → r < k → negsuc m *ℤ pos k +ℤ pos r ≡ negsuc (m * k + (k - 1 - r))
join_down m k r h = eq_z _ _ (omega (arith, whole_law k (negsuc m) r, add-mul m 1 k, one-mul k))

-- ---- parts added and taken away: z is (p - m) * k + s - s', and t is carried or t' borrowed
parts_floor : (k : ℕ) {z q : ℤ} {r : ℕ} (p m s s' t t' : ℕ) → Is z (p * k + s) (m * k + s') → Is q (p + t) (m + t') → s + t' * k ≡ s' + r + t * k → r < k → Floor k z q r
parts_floor k {z} {q} {r} p m s s' t t' e f g h =
    to_floor
    (omega (arith, ap (λ x. x * k) f, add-mul (plus q) (m + t') k, add-mul m t' k, add-mul (p + t) (minus q) k, add-mul p t k))
    h

-- c divisors more
pub floor_add : {k : ℕ} {n q : ℤ} {r : ℕ} (c : ℤ) → Floor k n q r → Floor k (n +ℤ c *ℤ pos k) (q +ℤ c) r
floor_add {k} {n} {q} {r} c f =
    parts_floor k (plus q + plus c) (minus q + minus c) r 0 0 0
    (omega (arith, splits f, add_law n (c *ℤ pos k), times_law c k, add-mul (plus q) (plus c) k, add-mul (minus q) (minus c) k))
    (omega (arith, add_law q c)) (omega arith) f.small

module _ (k : ℕ) (a b : Parts) {q : ℤ} {r : ℕ} (t : ℕ) where
  pub sum_floor : Is q (plus a.quotient + plus b.quotient + t) (minus a.quotient + minus b.quotient) → a.rest + b.rest ≡ r + t * k → r < k → Floor k (whole k a +ℤ whole k b) q r
  unfolding whole
  sum_floor e f h =
      parts_floor k (plus a.quotient + plus b.quotient) (minus a.quotient + minus b.quotient) (a.rest + b.rest) 0 t 0
      (omega (arith, add_law (whole k a) (whole k b), whole_law k a.quotient a.rest, whole_law k b.quotient b.rest, add-mul (plus a.quotient) (plus b.quotient) k, add-mul (minus a.quotient) (minus b.quotient) k))
      (omega arith) (omega arith) h

  pub diff_floor : Is q (plus a.quotient + minus b.quotient) (minus a.quotient + plus b.quotient + t) → a.rest + t * k ≡ b.rest + r → r < k → Floor k (whole k a -ℤ whole k b) q r
  unfolding whole
  diff_floor e f h =
      parts_floor k (plus a.quotient + minus b.quotient) (minus a.quotient + plus b.quotient) a.rest b.rest 0 t
      (omega (arith, diff_law (whole k a) (whole k b), whole_law k a.quotient a.rest, whole_law k b.quotient b.rest, add-mul (plus a.quotient) (minus b.quotient) k, add-mul (minus a.quotient) (plus b.quotient) k))
      (omega arith) (omega arith) h

-- parts are a number's whole, and can be added where the quotient is not large
pub whole_of : {k : ℕ} {n : ℤ} (p : Parts) → Floor k n p.quotient p.rest → whole k p ≡ n
unfolding whole
whole_of p f = sym f.whole

pub proper : {k : ℕ} {n : ℤ} (p : Parts) → Floor k n p.quotient p.rest → plus n ≤ 2 ^ 60 * k + minus n → minus n ≤ 2 ^ 60 * k + plus n → k ≤ 2 ^ 62 → Proper k p
proper {k} {n} p f h l m =
    record { small = f.small; divisor = m; quotient = small_size p.quotient (splits f) }
  where
    small_size : (q : ℤ) → Splits k n q p.rest → nat_abs q ≤ 2 ^ 61
    small_size (pos a) e = le_trans (le_of_mul-le-mul_right {n = 2 ^ 60} {k = k} (omega arith) (omega (arith, f.small))) (omega arith)
    small_size (negsuc a) e = le_trans (le_of_mul-le-mul_right {n = 2 ^ 60 + 1} {k = k} (omega (arith, f.small, add-mul (2 ^ 60) 1 k, one-mul k)) (omega (arith, f.small))) (omega arith)

-- two quotients, as `omega` reads them
pub record Quotients (a b : Parts) : Type 0 where
  pub both : Two w64 a.quotient b.quotient
  pub first : nat_abs a.quotient ≡ plus a.quotient + minus a.quotient
  pub second : nat_abs b.quotient ≡ plus b.quotient + minus b.quotient

pub quotients : (a b : Parts) → SFits w64 a.quotient → SFits w64 b.quotient → Quotients a b
quotients a b f g = record { both = two f g; first = size_law a.quotient; second = size_law b.quotient }

-- ---- what a caller of `floor_split`, `add_parts` and `sub_parts` learns, of the numbers themselves
abbrev pub PartsOf : ℕ → ℤ → Parts → Type 0
PartsOf k n p = Floor k n p.quotient p.rest

pub of_split : {k : ℕ} {n : ℤ} {p : Parts} → SFits w64 n → PartsOf k (to_z w64 (of_z w64 n)) p → PartsOf k n p
of_split {k} {p = p} f = subst (λ z. PartsOf k z p) (to_z-of_z {w = w64} f)

module _ {k : ℕ} {m n : ℤ} {p q r : Parts} (f : PartsOf k m p) (g : PartsOf k n q) where
  pub of_add : PartsOf k (whole k p +ℤ whole k q) r → PartsOf k (m +ℤ n) r
  of_add = subst (λ z. PartsOf k z r) (ap (λ z. z +ℤ whole k q) (whole_of p f) ∙ ap (λ z. m +ℤ z) (whole_of q g))

  pub of_sub : PartsOf k (whole k p -ℤ whole k q) r → PartsOf k (m -ℤ n) r
  of_sub = subst (λ z. PartsOf k z r) (ap (λ z. z -ℤ whole k q) (whole_of p f) ∙ ap (λ z. m -ℤ z) (whole_of q g))
