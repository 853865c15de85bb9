-- The months of a year: sums of their lengths, and the code's arithmetic for them.
use mathlib.Core.Path.{◌≡◌, refl, ap, subst, ◌∙◌}
use mathlib.Core.Bool.{Bool, true, false, cond, ◌&&◌}
use mathlib.Core.List.{List, [], ◌∷◌}
use Prim.Native.Nat.{ℕ, zero, suc, ◌+◌, ◌*◌, ◌-◌, ◌/◌, ◌≤◌, ◌<◌}
use native.Mathlib.Omega.{arith}
use lib.Dec.{T, eqb, leb, ltb, eqb→eq, leb→le, ltb→lt}
use lib.IntN.{ℤ}
use lib.ListN.{get_or}
use mir.Facts.{and_yes}
use mir.Val.{bool_byte}
use Rattle.calendar.specs.declared.Date.{Date}
use Rattle.calendar.specs.Walk.{is_leap, month_row, month_length, Valid}
use Rattle.calendar.specs.Closed.{year_length, sum_to, day_of_year, InYear}
use Rattle.calendar.proofs.Table.{below, at}

pub sum_zero : (row : List ℕ) → sum_to row 0 ≡ 0
unfolding sum_to
sum_zero row = refl

pub sum_suc : (row : List ℕ) (n : ℕ) → sum_to row (suc n) ≡ sum_to row n + get_or row n 0
unfolding sum_to
sum_suc [] zero = refl
sum_suc [] (suc n) = refl
sum_suc (x ∷ row) zero = omega arith
sum_suc (x ∷ row) (suc n) = omega (arith, sum_suc row n)

-- sums grow with the number of months
sum_more : (row : List ℕ) (m n : ℕ) → sum_to row m ≤ sum_to row (m + n)
sum_more row m zero = let e : sum_to row (m + 0) ≡ sum_to row m = ap (sum_to row) (omega arith) in omega arith
sum_more row m (suc n) =
    let e : sum_to row (m + suc n) ≡ sum_to row (suc (m + n)) = ap (sum_to row) (omega arith) in
    omega (arith, sum_more row m n, sum_suc row (m + n))

pub sum_grows : (row : List ℕ) (m n : ℕ) → m ≤ n → sum_to row m ≤ sum_to row n
sum_grows row m n h =
    let e : sum_to row (m + (n - m)) ≡ sum_to row n = ap (sum_to row) (omega arith) in omega (arith, sum_more row m (n - m))

pub year_sum : (leap : Bool) → sum_to (month_row leap) 12 ≡ year_length leap
unfolding sum_to month_row year_length
year_sum true = refl
year_sum false = refl

-- ---- rules of the rows, each by one test over all entries
pub month_top : (leap : Bool) (k : ℕ) → k < 12 → get_or (month_row leap) k 0 ≤ 31
unfolding month_row
month_top true k h = leb→le _ 31 (at (λ i x. leb x 31) (month_row true) tt k h)
month_top false k h = leb→le _ 31 (at (λ i x. leb x 31) (month_row false) tt k h)

pub length_low : (year : ℤ) (month : ℕ) → 1 ≤ month → month ≤ 12 → 28 ≤ month_length year month
unfolding month_row month_length
length_low year month h l = low (is_leap year)
  where
    low : (leap : Bool) → 28 ≤ get_or (month_row leap) (month - 1) 0
    low true = leb→le 28 _ (at (λ i x. leb 28 x) (month_row true) tt (month - 1) (omega arith))
    low false = leb→le 28 _ (at (λ i x. leb 28 x) (month_row false) tt (month - 1) (omega arith))

pub length_some : (year : ℤ) (month : ℕ) → 1 ≤ month → month ≤ 12 → 1 ≤ month_length year month
length_some year month h l = omega (arith, length_low year month h l)

-- a table of two rows, indexed by a flag
pub flag : (b : Bool) → bool_byte b < 2
flag true = omega arith
flag false = omega arith

pub rows : (r : Bool → List ℕ) (b : Bool) (k : ℕ) → get_or (get_or (r false ∷ r true ∷ []) (bool_byte b) []) k 0 ≡ get_or (r b) k 0
rows r true k = refl
rows r false k = refl

-- the code's arithmetic for the sums
abbrev start : Bool → ℕ → ℕ
start leap k = cond (ltb k 2) ((k * 489 + 8) / 16) ((k * 489 + 8) / 16 - 2 + bool_byte leap)

pub start_rule : (leap : Bool) (k : ℕ) → k ≤ 12 → start leap k ≡ sum_to (month_row leap) k
unfolding month_row sum_to
start_rule true k h = eqb→eq _ _ (below (λ i. eqb (start true i) (sum_to (month_row true) i)) 13 tt k (omega arith))
start_rule false k h = eqb→eq _ _ (below (λ i. eqb (start false i) (sum_to (month_row false) i)) 13 tt k (omega arith))

-- the code's arithmetic for the month, from 0, that a day of the year lies in
abbrev month_at : Bool → ℕ → ℕ
month_at leap n = (cond (ltb (n + (2 - bool_byte leap)) 61) n (n + (2 - bool_byte leap)) * 67 + 30) / 2048

abbrev within : Bool → ℕ → Bool
within leap n = leb (month_at leap n) 11 && (leb (sum_to (month_row leap) (month_at leap n)) n && ltb n (sum_to (month_row leap) (month_at leap n + 1)))

pub month_rule : (leap : Bool) (n : ℕ) → n < year_length leap → (month_at leap n ≤ 11) × (sum_to (month_row leap) (month_at leap n) ≤ n) × (n < sum_to (month_row leap) (month_at leap n + 1))
unfolding month_row sum_to year_length
month_rule leap n h =
    let t = and_yes (leb (month_at leap n) 11) _ (test leap h) in
    let u = and_yes (leb (sum_to (month_row leap) (month_at leap n)) n) _ t.1 in
    (leb→le _ _ t.0, leb→le _ _ u.0, ltb→lt _ _ u.1)
  where
    test : (leap : Bool) → n < year_length leap → T (within leap n)
    test true l = below (within true) 366 tt n l
    test false l = below (within false) 365 tt n l

-- and for the days before a month in years that start with March, to whose January 306 days go
abbrev pub march : Bool → Bool → ℕ → ℕ
march early leap m = cond early (((m + 12) * 979 - 2919) / 32) ((m * 979 - 2919) / 32 + year_length leap)

abbrev right : Bool → ℕ → Bool
right leap m = eqb (march (ltb m 3) leap m) (sum_to (month_row leap) (m - 1) + 306)

pub march_rule : (leap : Bool) (m : ℕ) → 1 ≤ m → m ≤ 12 → march (ltb m 3) leap m ≡ sum_to (month_row leap) (m - 1) + 306
unfolding month_row sum_to year_length
march_rule leap m h l = eqb→eq _ _ (subst (λ k. T (right leap k)) {x = suc (m - 1)} {y = m} (omega arith) (test leap))
  where
    test : (leap : Bool) → T (right leap (suc (m - 1)))
    test true = below (λ i. right true (suc i)) 12 tt (m - 1) (omega arith)
    test false = below (λ i. right false (suc i)) 12 tt (m - 1) (omega arith)

-- ---- the day of the year
pub month_end : (d : Date) → 1 ≤ d.month → sum_to (month_row (is_leap d.year)) d.month ≡ sum_to (month_row (is_leap d.year)) (d.month - 1) + month_length d.year d.month
unfolding month_length
month_end d h =
    let row = month_row (is_leap d.year) in
    let e : sum_to row d.month ≡ sum_to row (suc (d.month - 1)) = ap (sum_to row) (omega arith) in
    e ∙ sum_suc row (d.month - 1)

pub day_of_year_end : (d : Date) → Valid d → day_of_year d < year_length (is_leap d.year)
unfolding day_of_year
day_of_year_end d v =
    let row = month_row (is_leap d.year) in
    omega (arith, month_end d v.month_from, v.day_to, v.day_from, sum_grows row d.month 12 v.month_to, year_sum (is_leap d.year))

-- a day of the year that lies in a month, from 0
pub month_found : (year : ℤ) (n k : ℕ) → (k ≤ 11) × (sum_to (month_row (is_leap year)) k ≤ n) × (n < sum_to (month_row (is_leap year)) (k + 1)) → InYear year n (k + 1) (n - sum_to (month_row (is_leap year)) k + 1)
unfolding month_length day_of_year
month_found year n k h =
    let row = month_row (is_leap year) in
    let e : k + 1 - 1 ≡ k = omega arith in
    let l : get_or row (k + 1 - 1) 0 ≡ get_or row k 0 = ap (λ m. get_or row m 0) e in
    let s : sum_to row (k + 1 - 1) ≡ sum_to row k = ap (sum_to row) e in
    let u : sum_to row (k + 1) ≡ sum_to row (suc k) = ap (sum_to row) (omega arith) in
    record { valid = record { month_from = omega arith; month_to = omega (arith, h.0); day_from = omega arith; day_to = omega (arith, sum_suc row k, h.2) }; is = omega (arith, h.1) }
