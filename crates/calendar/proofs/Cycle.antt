-- The 400-year cycle: the years that its days are found in, and that the walk has it.
use mathlib.Core.Path.{◌≡◌, refl, sym, ap, ◌∙◌}
use mathlib.Core.Bool.{Bool, true, false}
use Prim.Native.Nat.{ℕ, suc, ◌+◌, ◌*◌, ◌-◌, ◌/◌, ◌≤◌, ◌<◌, min}
use native.Mathlib.Decide.{dec_lt}
use native.Mathlib.Numerals.{add-one}
use native.Mathlib.Omega.{arith}
use lib.ListN.{get_or}
use Rattle.integers.specs.Integers.{floor_div}
use lib.IntN.{ℤ, pos, negsuc, ◌+ℤ◌, ◌-ℤ◌, ◌*ℤ◌}
use Rattle.integers.proofs.Signed.{plus, minus, eq_z, add_law, diff_law}
use Rattle.calendar.specs.Walk.{divides, is_leap, month_row, month_length, date, walk}
use Rattle.calendar.specs.Closed.{year_length, leap_years, year_start, sum_to, day_of_year, day_number, InCycle, InYear}
use Rattle.calendar.proofs.Years.{start_up, start_up_lem, start_up_suc, length_cycle, year_start_cycle}
use Rattle.calendar.proofs.Walk.{walk_valid, day_walk, reads}

-- a day that lies d days after its year's start
in_cycle : (n y d : ℕ) → y < 400 → start_up y + d ≡ n → n < start_up (suc y) → InCycle n y d
in_cycle n y d l e h = record { year_to = l; is = ap (λ z. z +ℤ pos d) (start_up_lem y) ∙ ap pos e; day_to = omega (arith, start_up_suc y) }

-- where the centuries start, and the other years
start_first : (a : ℕ) → a ≤ 3 → start_up (a * 100) ≡ 36524 * a + min 1 a
unfolding start_up
start_first a l = omega arith

start_later : (a b : ℕ) → a ≤ 3 → 1 ≤ b → b ≤ 100 → start_up (a * 100 + b) ≡ 36524 * a + (b * 1461 + 3) / 4
unfolding start_up
start_later a b l h k =
    let fours : (a * 100 + b + 3) / 4 ≡ 25 * a + (b + 3) / 4 = omega arith in
    let hundreds : (a * 100 + b + 99) / 100 ≡ a + 1 = omega arith in
    let cycles : (a * 100 + b + 399) / 400 ≡ 1 = omega arith in
    let years : (b * 1461 + 3) / 4 ≡ 365 * b + (b + 3) / 4 = omega arith in
    rw (fours, hundreds, cycles, years) (omega arith)

-- the century, its days, and the year of the century, as the quotients find them
module _ (n : ℕ) (top : n < 146097) where
  abbrev a : ℕ
  a = n * 4 / 146097

  abbrev m : ℕ
  m = n - a * 146097 / 4

  abbrev b : ℕ
  b = m * 4 / 1461

  century : (a ≤ 3) × (a * 146097 / 4 ≡ 36524 * a)
  century = (omega arith, omega arith)

  split : (m + 36524 * a ≡ n) × (b ≤ 99)
  split = (omega (arith, century), omega (arith, century))

  pub some : 0 < a → 1 ≤ m
  some h = omega (arith, century)

  next : (y : ℕ) → start_up (y + 1) ≡ start_up (suc y)
  next y = ap start_up (add-one y)

  -- the first year of a common century, and any other
  pub in_common : b ≡ 0 → 0 < a → InCycle n (a * 100) (m - 1)
  in_common e h =
      in_cycle n (a * 100) (m - 1) (omega (arith, century)) (omega (arith, start_first a century.0, split, some h))
      (omega (arith, next (a * 100), start_later a 1 century.0 (omega arith) (omega arith), split))

  pub in_other : (b ≡ 0 → a ≡ 0) → InCycle n (a * 100 + b) (m - (b * 1461 + 3) / 4)
  in_other h = go (dec_lt 0 b)
    where
      go : Dec (0 < b) → InCycle n (a * 100 + b) (m - (b * 1461 + 3) / 4)
      go (yes l) =
          let e : start_up (a * 100 + (b + 1)) ≡ start_up (suc (a * 100 + b)) = ap start_up (omega arith) in
          in_cycle n _ _ (omega (arith, century, split)) (omega (arith, start_later a b century.0 l (omega (arith, split)), split)) (omega (arith, start_later a (b + 1) century.0 (omega arith) (omega (arith, split)), split))
      go (no l) =
          let z : b ≡ 0 = omega arith in
          let e : start_up (a * 100 + b) ≡ start_up (a * 100) = ap start_up (omega arith) in
          let f : start_up (a * 100 + 1) ≡ start_up (suc (a * 100 + b)) = ap start_up (omega arith) in
          in_cycle n _ _ (omega (arith, century, split)) (omega (arith, start_first a century.0, split, h z)) (omega (arith, start_later a 1 century.0 (omega arith) (omega arith), split))

-- ---- from a day of a cycle to its date
module _ (c : ℤ) (n y d : ℕ) (i : InCycle n y d) where
  pub day_in_year : d < year_length (is_leap (c *ℤ pos 400 +ℤ pos y))
  day_in_year = omega (arith, i.day_to, length_cycle c (pos y))

  pub date_found : (m e : ℕ) → InYear (c *ℤ pos 400 +ℤ pos y) d m e → date (c *ℤ pos 400 +ℤ pos y) m e ≡ walk (c *ℤ pos 146097 +ℤ pos n -ℤ pos 719528)
  unfolding day_number
  date_found m e j =
      let z = c *ℤ pos 400 +ℤ pos y in
      let x = c *ℤ pos 146097 in
      let s = year_start_cycle c (pos y) in
      let k = day_of_year (date z m e) in
      reads (date z m e) _ j.valid
      (eq_z _ _
      (omega (arith, j.is, ap plus i.is, ap minus i.is, add_law (year_start (pos y)) (pos d), ap plus s, ap minus s, add_law x (year_start (pos y)), add_law (year_start z) (pos k), diff_law (year_start z +ℤ pos k) (pos 719528), add_law x (pos n), diff_law (x +ℤ pos n) (pos 719528))))

-- ---- the cycle and year 0, of the walk alone
same_flag : (a b : Bool) → year_length a ≡ year_length b → a ≡ b
unfolding year_length
same_flag true true e = refl
same_flag true false e = absurd (omega arith)
same_flag false true e = absurd (omega arith)
same_flag false false e = refl

-- 146,097 DAYS LATER THE WALK IS AT THE SAME DAY OF THE YEAR, 400 YEARS ON
pub walk_cycle : (n : ℤ) → walk (n +ℤ pos 146097) ≡ date (pos 400 +ℤ (walk n).year) (walk n).month (walk n).day
unfolding day_number day_of_year month_length
walk_cycle n =
    let d = walk n in
    let v = walk_valid n in
    let y = d.year in
    let z = pos 400 +ℤ y in
    let l : is_leap z ≡ is_leap y = same_flag _ _ (length_cycle (pos 1) y) in
    let m : month_length z d.month ≡ month_length y d.month = ap (λ b. get_or (month_row b) (d.month - 1) 0) l in
    let k : day_of_year (date z d.month d.day) ≡ day_of_year d = ap (λ b. sum_to (month_row b) (d.month - 1) + (d.day - 1)) l in
    let s : year_start z ≡ pos 146097 +ℤ year_start y = year_start_cycle (pos 1) y in
    let e = day_walk n in
    let a = day_of_year d in
    let b = day_of_year (date z d.month d.day) in
    sym (reads (date z d.month d.day) (n +ℤ pos 146097) (record { month_from = v.month_from; month_to = v.month_to; day_from = v.day_from; day_to = omega (arith, v.day_to) })
    (eq_z _ _
    (omega (arith, ap plus s, ap minus s, ap plus e, ap minus e, add_law (pos 146097) (year_start y), add_law (year_start y) (pos a), diff_law (year_start y +ℤ pos a) (pos 719528), add_law (year_start z) (pos b), diff_law (year_start z +ℤ pos b) (pos 719528), add_law n (pos 146097)))))

-- FROM YEAR 0 TO 1970 ARE 719,528 DAYS
pub walk_to_year_0 : walk (negsuc 719527) ≡ date (pos 0) 1 1
unfolding day_number day_of_year month_length month_row is_leap divides year_start leap_years floor_div sum_to
walk_to_year_0 = sym (reads (date (pos 0) 1 1) (negsuc 719527) (record { month_from = omega arith; month_to = omega arith; day_from = omega arith; day_to = omega arith }) refl)
