-- A division by d as a product and a shift: n m / w, where w is a power of two and m is w / d, rounded up (document 02, ask 2).
use mathlib.Core.Path.{◌≡◌, sym, ap, ◌∙◌}
use Prim.Native.Nat.{ℕ, zero, suc, ◌+◌, ◌-◌, ◌*◌, ◌/◌, ◌%◌, ◌^◌, ◌<◌, ◌≤◌}
use native.Mathlib.Omega.{arith}
use native.Mathlib.Nat.{mul_assoc, mul-zero, mul-le-mul_left, mod-lt, mul-add, mul-add-div, mul-add-div_right, mul-div-mul_right, div-div-eq-div-mul, div-add-mod, div-eq_of_lt, mod-eq-sub-div-mul, add_assoc, add-zero}

-- d m has e more than w, so that the quotient is that of n and n e / w together
pub product : (d m w e n : ℕ) → 0 < d → 0 < w → m * d ≡ w + e → n * m / w ≡ (n + n * e / w) / d
product d m w e n hd hw h =
    let p : n * m * d ≡ n * w + n * e = mul_assoc n m d ∙ ap (λ x. n * x) h ∙ mul-add n w e in
    sym (mul-div-mul_right (n * m) w hd) ∙ rw (p, ← div-div-eq-div-mul, mul-add-div_right hw n (n * e))

-- and exact where n e / w does not carry: the quotient, and with it the remainder
pub split_by_product : (d m w e n : ℕ) → 0 < d → 0 < w → m * d ≡ w + e → n % d + n * e / w < d → (n * m / w ≡ n / d) × (n - n * m / w * d ≡ n % d)
split_by_product d m w e n hd hw h l =
    let k = n * e / w in
    let s : n + k ≡ d * (n / d) + (n % d + k) = ap (λ x. x + k) (sym (div-add-mod n d)) ∙ add_assoc (d * (n / d)) (n % d) k in
    let q : n * m / w ≡ n / d = product d m w e n hd hw h ∙ ap (λ x. x / d) s ∙ mul-add-div hd (n / d) (n % d + k) ∙ rw (div-eq_of_lt l, add-zero) in
    (q, rw q (sym (mod-eq-sub-div-mul n d)))

-- below 2^30 by 32 bits, where d m has at most 4 more than 2^32
pub rounded_up : (d m n : ℕ) → n < 2 ^ 30 → 2 ^ 32 ≤ m * d → m * d ≤ 2 ^ 32 + 4 → (n * m / 2 ^ 32 ≡ n / d) × (n - n * m / 2 ^ 32 * d ≡ n % d)
rounded_up zero m n h low top = absurd (omega (arith, mul-zero m))
rounded_up (suc k) m n h low top =
    let d = suc k in
    let e = m * d - 2 ^ 32 in
    let few : n * e ≤ n * 4 = mul-le-mul_left n (omega arith) in
    let none : n * e / 2 ^ 32 ≡ 0 = div-eq_of_lt (omega arith) in
    split_by_product d m (2 ^ 32) e n (omega arith) (omega arith) (omega arith) (omega (arith, none, mod-lt n {m = d}))
