-- Where a year starts: a year's length after the one before, and 146,097 days after the same year of the cycle before.
use mathlib.Core.Path.{◌≡◌, refl, sym, ap, ◌∙◌}
use mathlib.Core.Bool.{Bool, true, false}
use Prim.Native.Nat.{ℕ, zero, suc, ◌+◌, ◌*◌, ◌-◌, ◌/◌, ◌%◌, ◌≤◌, ◌<◌, min}
use native.Mathlib.Nat.{div-add-mod', mod-lt, zero-div, zero-mul, div-eq_of_lt, div-le_self}
use native.Mathlib.Omega.{arith}
use lib.IntN.{ℤ, pos, negsuc, nat_abs, neg_ℤ, suc_ℤ, ◌+ℤ◌, ◌-ℤ◌, ◌*ℤ◌}
use lib.Signed.{◌<ℤ◌}
use Rattle.integers.specs.Integers.{floor_div}
use Rattle.integers.proofs.Signed.{plus, minus, Is, eq_z, less, apart, size_law, add_law, diff_law, times_law, suc_law, neg_size}
use Rattle.integers.proofs.Floor.{floor_law, floor_one, floor_add, to_floor}
use Rattle.calendar.specs.Walk.{is_leap}
use Rattle.calendar.specs.Closed.{year_length, leap_years, year_start}
use Rattle.calendar.proofs.Leap.{bit, leap_years_suc}

length_is : (b : Bool) → year_length b ≡ 365 + bit b
unfolding year_length
length_is true = refl
length_is false = refl

pub some_length : (b : Bool) → (365 ≤ year_length b) × (year_length b ≤ 366)
unfolding year_length
some_length true = (omega arith, omega arith)
some_length false = (omega arith, omega arith)

-- THE STEP
pub year_start_suc : (y : ℤ) → year_start (suc_ℤ y) ≡ year_start y +ℤ pos (year_length (is_leap y))
unfolding year_start
year_start_suc y =
    let l = bit (is_leap y) in
    rw (leap_years_suc, length_is)
    (eq_z _ _
    (omega (arith, suc_law y, times_law (suc_ℤ y) 365, times_law y 365, add_law (leap_years y) (pos l), add_law (suc_ℤ y *ℤ pos 365) (leap_years y +ℤ pos l), add_law (y *ℤ pos 365) (leap_years y), add_law (y *ℤ pos 365 +ℤ leap_years y) (pos (365 + l)))))

-- the same, as `omega` reads it
pub start_step : (y : ℤ) → Is (year_start (suc_ℤ y)) (plus (year_start y) + year_length (is_leap y)) (minus (year_start y))
start_step y =
    omega (arith, ap plus (year_start_suc y), ap minus (year_start_suc y), add_law (year_start y) (pos (year_length (is_leap y))))

-- a year starts no later than any year after it
no_later : (y : ℤ) (n : ℕ) → plus (year_start y) + minus (year_start (y +ℤ pos n)) ≤ plus (year_start (y +ℤ pos n)) + minus (year_start y)
no_later y zero = let e : y +ℤ pos 0 ≡ y = eq_z _ _ (omega (arith, add_law y (pos 0))) in omega (arith, ap (λ z. plus (year_start z)) e, ap (λ z. minus (year_start z)) e)
no_later y (suc n) =
    let e : y +ℤ pos (suc n) ≡ suc_ℤ (y +ℤ pos n) = eq_z _ _ (omega (arith, add_law y (pos (suc n)), suc_law (y +ℤ pos n), add_law y (pos n))) in
    omega (arith, ap (λ z. plus (year_start z)) e, ap (λ z. minus (year_start z)) e, start_step (y +ℤ pos n), no_later y n)

-- a year has ended where a later year starts
pub year_ahead : (y z : ℤ) → y <ℤ z → plus (year_start y) + year_length (is_leap y) + minus (year_start z) ≤ plus (year_start z) + minus (year_start y)
year_ahead y z h =
    let n = plus z + minus y - (plus y + minus z) - 1 in
    let e : suc_ℤ y +ℤ pos n ≡ z = eq_z _ _ (omega (arith, less h, suc_law y, add_law (suc_ℤ y) (pos n))) in
    omega (arith, start_step y, no_later (suc_ℤ y) n, ap (λ x. plus (year_start x)) e, ap (λ x. minus (year_start x)) e)

-- ---- the cycle of 400 years
module _ (c y : ℤ) where
  -- m quotients more for each cycle
  more : (k m s : ℕ) → 0 < k → c *ℤ pos m *ℤ pos k ≡ c *ℤ pos 400 → floor_div k (c *ℤ pos 400 +ℤ y +ℤ pos s) ≡ floor_div k (y +ℤ pos s) +ℤ c *ℤ pos m
  more k m s h e =
      let n = y +ℤ pos s in
      let f : n +ℤ c *ℤ pos m *ℤ pos k ≡ c *ℤ pos 400 +ℤ y +ℤ pos s = ap (λ z. n +ℤ z) e ∙ eq_z _ _ (omega (arith, add_law n (c *ℤ pos 400), add_law y (pos s), add_law (c *ℤ pos 400) y, add_law (c *ℤ pos 400 +ℤ y) (pos s))) in
      sym (ap (floor_div k) f) ∙ (floor_one (floor_law k (n +ℤ c *ℤ pos m *ℤ pos k) h) (floor_add (c *ℤ pos m) (floor_law k n h))).0

  leap_years_cycle : leap_years (c *ℤ pos 400 +ℤ y) ≡ leap_years y +ℤ c *ℤ pos 97
  unfolding leap_years
  leap_years_cycle =
      rw (more 4 100 3 (omega arith) (eq_z _ _ (omega (arith, times_law c 100, times_law (c *ℤ pos 100) 4, times_law c 400))), more 100 4 99 (omega arith) (eq_z _ _ (omega (arith, times_law c 4, times_law (c *ℤ pos 4) 100, times_law c 400))), more 400 1 399 (omega arith) (eq_z _ _ (omega (arith, times_law c 1, times_law (c *ℤ pos 1) 400, times_law c 400))))
      (together (floor_div 4 (y +ℤ pos 3)) (floor_div 100 (y +ℤ pos 99)) (floor_div 400 (y +ℤ pos 399)))
    where
      together : (a b d : ℤ) → a +ℤ c *ℤ pos 100 -ℤ (b +ℤ c *ℤ pos 4) +ℤ (d +ℤ c *ℤ pos 1) ≡ a -ℤ b +ℤ d +ℤ c *ℤ pos 97
      together a b d =
          let x = a +ℤ c *ℤ pos 100 in
          let z = b +ℤ c *ℤ pos 4 in
          let w = d +ℤ c *ℤ pos 1 in
          eq_z _ _
          (omega (arith, times_law c 100, times_law c 4, times_law c 1, times_law c 97, add_law a (c *ℤ pos 100), add_law b (c *ℤ pos 4), add_law d (c *ℤ pos 1), diff_law x z, add_law (x -ℤ z) w, diff_law a b, add_law (a -ℤ b) d, add_law (a -ℤ b +ℤ d) (c *ℤ pos 97)))

  -- 400 YEARS ARE 146,097 DAYS, before year 0 too
  pub year_start_cycle : year_start (c *ℤ pos 400 +ℤ y) ≡ c *ℤ pos 146097 +ℤ year_start y
  unfolding year_start
  year_start_cycle =
      let z = c *ℤ pos 400 +ℤ y in
      rw leap_years_cycle
      (eq_z _ _
      (omega (arith, times_law c 400, times_law c 97, times_law c 146097, times_law y 365, add_law (c *ℤ pos 400) y, times_law z 365, add_law (leap_years y) (c *ℤ pos 97), add_law (z *ℤ pos 365) (leap_years y +ℤ c *ℤ pos 97), add_law (y *ℤ pos 365) (leap_years y), add_law (c *ℤ pos 146097) (y *ℤ pos 365 +ℤ leap_years y))))

-- the leap rule has the cycle's period
pub length_cycle : (c y : ℤ) → year_length (is_leap (c *ℤ pos 400 +ℤ y)) ≡ year_length (is_leap y)
length_cycle c y =
    let z = c *ℤ pos 400 in
    let e : suc_ℤ (z +ℤ y) ≡ z +ℤ suc_ℤ y = eq_z _ _ (omega (arith, suc_law (z +ℤ y), add_law z y, suc_law y, add_law z (suc_ℤ y))) in
    let f = ap year_start e ∙ year_start_cycle c (suc_ℤ y) in
    let g = year_start_cycle c y in
    let x = c *ℤ pos 146097 in
    omega (arith, ap plus f, ap minus f, ap plus g, ap minus g, start_step (z +ℤ y), start_step y, add_law x (year_start (suc_ℤ y)), add_law x (year_start y))

-- ---- a year's start in natural numbers: quotients round up from 0 on, and toward zero before
ceil_law : (k : ℕ) (y : ℤ) → 0 < k → Is (floor_div k (y +ℤ pos (k - 1))) ((plus y + (k - 1)) / k) (minus y / k)
unfolding floor_div
ceil_law k (pos n) h = omega (arith, zero-div k)
ceil_law k (negsuc n) h =
    let m = suc n / k in
    let e = (floor_one (floor_law k (negsuc n +ℤ pos (k - 1)) h)
    (to_floor {q = neg_ℤ (pos m)} {r = k - 1 - suc n % k}
    (omega (arith, add_law (negsuc n) (pos (k - 1)), ap (λ x. x * k) (neg_size m).0, ap (λ x. x * k) (neg_size m).1, zero-mul k, div-add-mod' (suc n) k, mod-lt (suc n) h)) (omega (arith, mod-lt (suc n) h)))).0 in
    let z : (0 + (k - 1)) / k ≡ 0 = div-eq_of_lt (omega arith) in
    omega (arith, ap plus e, ap minus e, neg_size m)

pub start_law : (y : ℤ) → Is (year_start y) (plus y * 365 + (plus y + 3) / 4 + minus y / 100 + (plus y + 399) / 400) (minus y * 365 + minus y / 4 + (plus y + 99) / 100 + minus y / 400)
unfolding year_start leap_years
start_law y =
    sums (floor_div 4 (y +ℤ pos 3)) (floor_div 100 (y +ℤ pos 99)) (floor_div 400 (y +ℤ pos 399)) _ _ _ _ _ _ (ceil_law 4 y (omega arith)) (ceil_law 100 y (omega arith)) (ceil_law 400 y (omega arith))
  where
    sums : (a b c : ℤ) (p q r s t u : ℕ) → Is a p q → Is b r s → Is c t u → Is (y *ℤ pos 365 +ℤ (a -ℤ b +ℤ c)) (plus y * 365 + p + s + t) (minus y * 365 + q + r + u)
    sums a b c p q r s t u e f g = omega (arith, times_law y 365, diff_law a b, add_law (a -ℤ b) c, add_law (y *ℤ pos 365) (a -ℤ b +ℤ c))

-- a year from 0 on
unfoldable pub start_up : ℕ → ℕ
start_up n = 365 * n + (n + 3) / 4 + (n + 399) / 400 - (n + 99) / 100

pub start_up_lem : (n : ℕ) → year_start (pos n) ≡ pos (start_up n)
unfolding start_up
start_up_lem n = eq_z _ _ (omega (arith, start_law (pos n)))

pub start_up_suc : (n : ℕ) → start_up (suc n) ≡ start_up n + year_length (is_leap (pos n))
start_up_suc n = omega (arith, ap plus (start_up_lem (suc n)), ap minus (start_up_lem (suc n)), ap plus (start_up_lem n), ap minus (start_up_lem n), start_step (pos n))

-- a year's start is not far from its number
pub start_near : (y : ℤ) → nat_abs (year_start y) ≤ nat_abs y * 368 + 800
start_near y =
    near (year_start y) (plus y) (minus y) _ _ _ _ _ _ (start_law y) (div-le_self _ 4) (div-le_self _ 100) (div-le_self _ 400) (div-le_self _ 4) (div-le_self _ 100) (div-le_self _ 400) (size_law y)
  where
    near : (z : ℤ) (p m a b c d e f : ℕ) {n : ℕ} → Is z (p * 365 + a + e + c) (m * 365 + d + b + f) → a ≤ p + 3 → b ≤ p + 99 → c ≤ p + 399 → d ≤ m → e ≤ m → f ≤ m → n ≡ p + m → nat_abs z ≤ n * 368 + 800
    near z p m a b c d e f i h₁ h₂ h₃ h₄ h₅ h₆ l = omega (arith, size_law z, apart z)

-- and no year's start is much nearer
pub start_far : (y : ℤ) → nat_abs y * 364 ≤ nat_abs (year_start y) + 800
start_far y =
    far (year_start y) (plus y) (minus y) _ _ _ _ _ _ (start_law y) (div-le_self _ 4) (div-le_self _ 100) (div-le_self _ 400) (div-le_self _ 4) (div-le_self _ 100) (div-le_self _ 400) (apart y) (size_law y)
  where
    far : (z : ℤ) (p m a b c d e f : ℕ) {n : ℕ} → Is z (p * 365 + a + e + c) (m * 365 + d + b + f) → a ≤ p + 3 → b ≤ p + 99 → c ≤ p + 399 → d ≤ m → e ≤ m → f ≤ m → min p m ≡ 0 → n ≡ p + m → n * 364 ≤ nat_abs z + 800
    far z p m a b c d e f i h₁ h₂ h₃ h₄ h₅ h₆ o l = omega (arith, size_law z, apart z)
