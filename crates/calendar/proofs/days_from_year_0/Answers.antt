-- `calendar::days_from_year_0`: each value in its range, and the last is the closed formula (`formula`).
use Rattle.std.proofs.Common.{◌≡◌, ℕ, ◌+◌, ◌-◌, ◌/◌, ◌*◌, ◌≤◌, min, arith, ◌+ℤ◌, ◌-ℤ◌, ◌*ℤ◌, ℤ, pos, nat_abs, to_z-of_z, w64, SFits, to_z, of_z}
use mir.Facts.{to_z_pos}
use Rattle.calendar.specs.Closed.{year_start}
use Rattle.calendar.proofs.Years.{start_law}
use Rattle.integers.proofs.Signed.{plus, minus, Is, apart, size_law, eq_z, add_law, diff_law, times_law}
use Rattle.integers.proofs.Machine.{small_size, small_add, small_sub, small_mul, small_pos, small_fits}
use Rattle.calendar.proofs.days_from_year_0.Goals as goal

-- the year from 2,500,000,001 cycles before year 0, and the leap years up to it from there
abbrev later : ℤ → ℕ
later y = nat_abs (y +ℤ pos 1000000000400)

abbrev leaps : ℕ → ℕ
leaps n = (n + 3) / 4 - (n + 99) / 100 + (n + 399) / 400

-- each quotient is that of the year, rounded up, and those of the cycles
shifted : (p m n : ℕ) → min p m ≡ 0 → n + m ≡ p + 1000000000400 → ((n + 3) / 4 + m / 4 ≡ (p + 3) / 4 + 250000000100) × ((n + 99) / 100 + m / 100 ≡ (p + 99) / 100 + 10000000004) × ((n + 399) / 400 + m / 400 ≡ (p + 399) / 400 + 2500000001)
shifted p m n o e = (omega arith, omega arith, omega arith)

fewer : (n : ℕ) → (n + 99) / 100 ≤ (n + 3) / 4
fewer n = omega arith

few : (n : ℕ) → n ≤ 2000000000401 → leaps n ≤ 1000000000000
few n h = omega arith

-- with the quotients as numbers
sums : (y z : ℤ) (a b c q₄ q₁ q r₄ r₁ r : ℕ) → (a + q₄ ≡ r₄ + 250000000100) × (b + q₁ ≡ r₁ + 10000000004) × (c + q ≡ r + 2500000001) → b ≤ a → Is z (plus y * 365 + r₄ + q₁ + r) (minus y * 365 + q₄ + r₁ + q) → y *ℤ pos 365 +ℤ pos (a - b + c) -ℤ pos 242500000097 ≡ z
sums y z a b c q₄ q₁ q r₄ r₁ r e h k =
    let n = y *ℤ pos 365 in
    let l = pos (a - b + c) in
    eq_z _ _ (omega (arith, times_law y 365, add_law n l, diff_law (n +ℤ l) (pos 242500000097)))

-- ---- each value fits
record Fit (y : ℤ) (l : ℕ) : Type 0 where
  year : SFits w64 y
  days : SFits w64 (y *ℤ pos 365)
  cast : to_z w64 l ≡ pos l
  sum : SFits w64 (y *ℤ pos 365 +ℤ pos l)
  difference : SFits w64 (y *ℤ pos 365 +ℤ pos l -ℤ pos 242500000097)
  is : y *ℤ pos 365 +ℤ pos l -ℤ pos 242500000097 ≡ year_start y

fit : (y : ℤ) (l : ℕ) → SFits w64 y → nat_abs y ≤ 1_000_000_000_001 → l ≡ leaps (nat_abs (to_z w64 (of_z w64 (to_z w64 (of_z w64 y) +ℤ pos 1000000000400)))) → Fit y l
fit y l f h e =
    let b = small_size {z = y} h in
    let z = y +ℤ pos 1000000000400 in
    let a = add_law y (pos 1000000000400) in
    let g : SFits w64 z = small_fits tt (small_add b (small_pos {b = 1000000000400} 1000000000400 (omega arith))) in
    let size : later y + minus y ≡ plus y + 1000000000400 = omega (arith, size_law z, apart z, b.low) in
    let top : later y ≤ 2000000000401 = omega (arith, size_law z, apart z, b.top, b.low) in
    let r : l ≡ leaps (later y) = simp (to_z-of_z, f, g) at e in
    let k : l ≤ 1000000000000 = rw r (few (later y) top) in
    let d = small_mul 365 b in
    let s = small_add d (small_pos l k) in
    record {
      year = f;
      days = small_fits tt d;
      cast = to_z_pos w64 (omega arith);
      sum = small_fits tt s;
      difference = small_fits tt (small_sub s (small_pos {b = 242500000097} 242500000097 (omega arith)));
      is = rw r (sums y (year_start y) _ _ _ _ _ _ _ _ _ (shifted (plus y) (minus y) (later y) (apart y) size) (fewer (later y)) (start_law y));
    }

pub returns : goal.returns
returns c =
    let k = fit c.args.year c.leap_years.result c.ranges.year c.requires c.leap_years.ensures in
    simp (to_z-of_z, k.year, k.days, k.cast, k.sum, k.difference) k.is
