-- The walk's laws over all of ℤ: `next` and `prev` undo one another, and the closed day number inverts the walk.
use mathlib.Core.Path.{◌≡◌, refl, sym, ap, subst, ◌∙◌}
use mathlib.Core.Bool.{Bool, true, false, cond}
use mathlib.Core.List.{List}
use Prim.Native.Nat.{ℕ, zero, suc, ◌+◌, ◌-◌, ◌≤◌, ◌<◌}
use native.Mathlib.Omega.{arith}
use lib.Dec.{ltb, leb→le}
use lib.IntN.{ℤ, pos, negsuc, suc_ℤ, pred_ℤ, suc-pred, pred-suc, ◌+ℤ◌}
use lib.Signed.{◌<ℤ◌}
use borrow.Author.Tests.{ltb-true, ltb-false}
use Rattle.integers.specs.Integers.{floor_div}
use Rattle.integers.proofs.Signed.{plus, minus, Is, eq_z, less, to_less, add_law, diff_law, suc_law, Tri, before, same, after, tri, triℤ}
use Rattle.calendar.specs.declared.Date.{Date}
use Rattle.calendar.specs.Walk.{is_leap, divides, month_row, month_length, Valid, date, next, prev, start, walk, Earlier, by_year, by_month, by_day}
use Rattle.calendar.specs.Closed.{year_length, leap_years, year_start, sum_to, day_of_year, day_number}
use Rattle.calendar.proofs.Years.{start_step, year_ahead}
use Rattle.calendar.proofs.Months.{sum_zero, sum_grows, year_sum, length_some, month_end, day_of_year_end}

-- ---- what `next` and `prev` can be
cases : (c : Bool) (x y : Date) (P : Date → Type 0) → (c ≡ true → P x) → (c ≡ false → P y) → P (cond c x y)
cases true x y P f g = f refl
cases false x y P f g = g refl

module _ (P : Date → Type 0) (d : Date) where
  pub next_cases : (d.day < month_length d.year d.month → P (date d.year d.month (d.day + 1))) → (month_length d.year d.month ≤ d.day → d.month < 12 → P (date d.year (d.month + 1) 1)) → (month_length d.year d.month ≤ d.day → 12 ≤ d.month → P (date (suc_ℤ d.year) 1 1)) → P (next d)
  unfolding next
  next_cases f g h =
      cases (ltb d.day (month_length d.year d.month)) _ _ P (λ e. f (ltb-true _ _ e))
      (λ e. cases (ltb d.month 12) _ _ P (λ e'. g (ltb-false _ _ e) (ltb-true _ _ e')) (λ e'. h (ltb-false _ _ e) (ltb-false _ _ e')))

  pub prev_cases : (1 < d.day → P (date d.year d.month (d.day - 1))) → (d.day ≤ 1 → 1 < d.month → P (date d.year (d.month - 1) (month_length d.year (d.month - 1)))) → (d.day ≤ 1 → d.month ≤ 1 → P (date (pred_ℤ d.year) 12 (month_length (pred_ℤ d.year) 12))) → P (prev d)
  unfolding prev
  prev_cases f g h =
      cases (ltb 1 d.day) _ _ P (λ e. f (ltb-true _ _ e))
      (λ e. cases (ltb 1 d.month) _ _ P (λ e'. g (ltb-false _ _ e) (ltb-true _ _ e')) (λ e'. h (ltb-false _ _ e) (ltb-false _ _ e')))

pub same_date : (d e : Date) → d.year ≡ e.year → d.month ≡ e.month → d.day ≡ e.day → d ≡ e
same_date d e p q r = λ i. record { year = p i; month = q i; day = r i }

-- ---- a valid date's neighbours are valid
pub next_valid : (d : Date) → Valid d → Valid (next d)
next_valid d v =
    next_cases Valid d
    (λ h. record { month_from = v.month_from; month_to = v.month_to; day_from = omega arith; day_to = omega arith })
    (λ h k. record { month_from = omega arith; month_to = omega arith; day_from = omega arith; day_to = length_some d.year (d.month + 1) (omega arith) (omega arith) })
    (λ h k. record { month_from = omega arith; month_to = omega arith; day_from = omega arith; day_to = length_some (suc_ℤ d.year) 1 (omega arith) (omega arith) })

pub prev_valid : (d : Date) → Valid d → Valid (prev d)
prev_valid d v =
    prev_cases Valid d
    (λ h. record { month_from = v.month_from; month_to = v.month_to; day_from = omega arith; day_to = omega (arith, v.day_to) })
    (λ h k. record { month_from = omega arith; month_to = omega (arith, v.month_to); day_from = length_some d.year (d.month - 1) (omega arith) (omega (arith, v.month_to)); day_to = omega arith })
    (λ h k. record { month_from = omega arith; month_to = omega arith; day_from = length_some (pred_ℤ d.year) 12 (omega arith) (omega arith); day_to = omega arith })

-- ---- `next` and `prev` undo one another
pub prev_next : (d : Date) → Valid d → prev (next d) ≡ d
prev_next d v =
    next_cases (λ x. prev x ≡ d) d
    (λ h. prev_cases (λ x. x ≡ d) (date d.year d.month (d.day + 1))
    (λ k. same_date _ _ refl refl (omega arith))
    (λ k l. absurd (omega (arith, v.day_from)))
    (λ k l. absurd (omega (arith, v.day_from))))
    (λ h h'. prev_cases (λ x. x ≡ d) (date d.year (d.month + 1) 1)
    (λ k. absurd (omega arith))
    (λ k l. same_date _ _ refl (omega arith) (ap (month_length d.year) (month_back d.month) ∙ omega (arith, v.day_to)))
    (λ k l. absurd (omega (arith, v.month_from))))
    (λ h h'. prev_cases (λ x. x ≡ d) (date (suc_ℤ d.year) 1 1)
    (λ k. absurd (omega arith))
    (λ k l. absurd (omega arith))
    (λ k l. same_date _ _ (pred-suc d.year) (omega (arith, v.month_to)) (last h h')))
  where
    month_back : (m : ℕ) → m + 1 - 1 ≡ m
    month_back m = omega arith

    last : month_length d.year d.month ≤ d.day → 12 ≤ d.month → month_length (pred_ℤ (suc_ℤ d.year)) 12 ≡ d.day
    last h h' =
        let m : 12 ≡ d.month = omega (arith, v.month_to) in
        let e : month_length (pred_ℤ (suc_ℤ d.year)) 12 ≡ month_length d.year d.month = ap (λ y. month_length y 12) (pred-suc d.year) ∙ ap (month_length d.year) m in
        omega (arith, v.day_to)

pub next_prev : (d : Date) → Valid d → next (prev d) ≡ d
next_prev d v =
    prev_cases (λ x. next x ≡ d) d
    (λ h. next_cases (λ x. x ≡ d) (date d.year d.month (d.day - 1))
    (λ k. same_date _ _ refl refl (omega arith))
    (λ k l. absurd (omega (arith, v.day_to)))
    (λ k l. absurd (omega (arith, v.day_to))))
    (λ h h'. next_cases (λ x. x ≡ d) (date d.year (d.month - 1) (month_length d.year (d.month - 1)))
    (λ k. absurd (omega arith))
    (λ k l. same_date _ _ refl (omega arith) (omega (arith, v.day_from)))
    (λ k l. absurd (omega (arith, v.month_to))))
    (λ h h'. next_cases (λ x. x ≡ d) (date (pred_ℤ d.year) 12 (month_length (pred_ℤ d.year) 12))
    (λ k. absurd (omega arith))
    (λ k l. absurd (omega arith))
    (λ k l. same_date _ _ (suc-pred d.year) (omega (arith, v.month_from)) (omega (arith, v.day_from))))

-- ---- the walk stays valid
start_valid : Valid start
unfolding start month_length month_row is_leap divides
start_valid = record { month_from = omega arith; month_to = omega arith; day_from = omega arith; day_to = leb→le start.day (month_length start.year start.month) tt }

pub walk_valid : (n : ℤ) → Valid (walk n)
unfolding walk
walk_valid (pos zero) = start_valid
walk_valid (pos (suc n)) = next_valid (walk (pos n)) (walk_valid (pos n))
walk_valid (negsuc zero) = prev_valid start start_valid
walk_valid (negsuc (suc n)) = prev_valid (walk (negsuc n)) (walk_valid (negsuc n))

-- ---- the day number steps by one
pub day_law : (d : Date) → Is (day_number d) (plus (year_start d.year) + day_of_year d) (minus (year_start d.year) + 719528)
unfolding day_number
day_law d =
    let y = year_start d.year in
    let n = pos (day_of_year d) in
    omega (arith, add_law y n, diff_law (y +ℤ n) (pos 719528))

one_more : (d e : Date) → d.year ≡ e.year → day_of_year e ≡ day_of_year d + 1 → day_number e ≡ suc_ℤ (day_number d)
one_more d e p q =
    let u = ap (λ y. plus (year_start y)) p in
    let w = ap (λ y. minus (year_start y)) p in
    eq_z _ _ (omega (arith, day_law d, day_law e, suc_law (day_number d)))

pub day_next : (d : Date) → Valid d → day_number (next d) ≡ suc_ℤ (day_number d)
unfolding day_of_year
day_next d v =
    next_cases (λ x. day_number x ≡ suc_ℤ (day_number d)) d
    (λ h. one_more d (date d.year d.month (d.day + 1)) refl (omega (arith, v.day_from)))
    (λ h k. one_more d (date d.year (d.month + 1) 1) refl (month_ends h))
    (λ h k. year_ends h k)
  where
    month_ends : month_length d.year d.month ≤ d.day → day_of_year (date d.year (d.month + 1) 1) ≡ day_of_year d + 1
    month_ends h =
        let row = month_row (is_leap d.year) in
        let e : sum_to row (d.month + 1 - 1) ≡ sum_to row d.month = ap (sum_to row) (omega arith) in
        omega (arith, month_end d v.month_from, v.day_to, v.day_from)

    first : (row : List ℕ) → sum_to row (1 - 1) + (1 - 1) ≡ 0
    first row = omega (arith, sum_zero row)

    year_ends : month_length d.year d.month ≤ d.day → 12 ≤ d.month → day_number (date (suc_ℤ d.year) 1 1) ≡ suc_ℤ (day_number d)
    year_ends h k =
        let y = d.year in
        let row = month_row (is_leap y) in
        let m : d.month ≡ 12 = omega (arith, v.month_to) in
        let t : sum_to row d.month ≡ year_length (is_leap y) = ap (sum_to row) m ∙ year_sum (is_leap y) in
        let q : day_of_year d + 1 ≡ year_length (is_leap y) = omega (arith, month_end d v.month_from, v.day_to, v.day_from) in
        let z : day_of_year (date (suc_ℤ y) 1 1) ≡ 0 = first (month_row (is_leap (suc_ℤ y))) in
        eq_z _ _ (omega (arith, day_law d, day_law (date (suc_ℤ y) 1 1), start_step y, suc_law (day_number d)))

pub day_prev : (d : Date) → Valid d → day_number (prev d) ≡ pred_ℤ (day_number d)
day_prev d v =
    sym (pred-suc (day_number (prev d))) ∙ ap pred_ℤ (sym (day_next (prev d) (prev_valid d v)) ∙ ap day_number (next_prev d v))

-- from year 0 to 1970 are 719,528 days
day_start : day_number start ≡ pos 0
unfolding day_number day_of_year start year_start leap_years floor_div month_row is_leap divides sum_to
day_start = refl

-- THE CLOSED FORMULA INVERTS THE WALK
pub day_walk : (n : ℤ) → day_number (walk n) ≡ n
unfolding walk
day_walk (pos zero) = day_start
day_walk (pos (suc n)) = day_next (walk (pos n)) (walk_valid (pos n)) ∙ ap suc_ℤ (day_walk (pos n))
day_walk (negsuc zero) = day_prev start start_valid ∙ ap pred_ℤ day_start
day_walk (negsuc (suc n)) = day_prev (walk (negsuc n)) (walk_valid (negsuc n)) ∙ ap pred_ℤ (day_walk (negsuc n))

-- ---- the order of day numbers is that of dates
in_year : (d e : Date) → d.year ≡ e.year → day_of_year d < day_of_year e → day_number d <ℤ day_number e
in_year d e p q =
    let u = ap (λ y. plus (year_start y)) p in
    let w = ap (λ y. minus (year_start y)) p in
    to_less _ _ (omega (arith, day_law d, day_law e))

pub earlier_less : (d e : Date) → Valid d → Valid e → Earlier d e → day_number d <ℤ day_number e
unfolding day_of_year
earlier_less d e v w (by_year h) =
    to_less _ _ (omega (arith, day_law d, day_law e, day_of_year_end d v, year_ahead d.year e.year h))
earlier_less d e v w (by_month p h) =
    let row = month_row (is_leap d.year) in
    let t : sum_to (month_row (is_leap e.year)) (e.month - 1) ≡ sum_to row (e.month - 1) = ap (λ y. sum_to (month_row (is_leap y)) (e.month - 1)) (sym p) in
    in_year d e p (omega (arith, month_end d v.month_from, v.day_to, v.day_from, sum_grows row d.month (e.month - 1) (omega arith)))
earlier_less d e v w (by_day p q h) =
    let t : sum_to (month_row (is_leap e.year)) (e.month - 1) ≡ sum_to (month_row (is_leap d.year)) (d.month - 1) = ap (λ y. sum_to (month_row (is_leap y)) (e.month - 1)) (sym p) ∙ ap (λ m. sum_to (month_row (is_leap d.year)) (m - 1)) (sym q) in
    in_year d e p (omega (arith, v.day_from))

three_ways : (d e : Date) → Tri (Earlier d e) (d ≡ e) (Earlier e d)
three_ways d e = go (triℤ d.year e.year) (tri d.month e.month) (tri d.day e.day)
  where
    go : Tri (d.year <ℤ e.year) (d.year ≡ e.year) (e.year <ℤ d.year) → Tri (d.month < e.month) (d.month ≡ e.month) (e.month < d.month) → Tri (d.day < e.day) (d.day ≡ e.day) (e.day < d.day) → Tri (Earlier d e) (d ≡ e) (Earlier e d)
    go (before h) s t = before (by_year h)
    go (after h) s t = after (by_year h)
    go (same p) (before h) t = before (by_month p h)
    go (same p) (after h) t = after (by_month (sym p) h)
    go (same p) (same q) (before h) = before (by_day p q h)
    go (same p) (same q) (after h) = after (by_day (sym p) (sym q) h)
    go (same p) (same q) (same r) = same (same_date d e p q r)

-- the day number of a valid date is no other's
pub day_one : (d e : Date) → Valid d → Valid e → day_number d ≡ day_number e → d ≡ e
day_one d e v w q = go (three_ways d e)
  where
    go : Tri (Earlier d e) (d ≡ e) (Earlier e d) → d ≡ e
    go (before h) = absurd (omega (arith, less (earlier_less d e v w h), ap plus q, ap minus q))
    go (same p) = p
    go (after h) = absurd (omega (arith, less (earlier_less e d w v h), ap plus q, ap minus q))

pub less_earlier : (d e : Date) → Valid d → Valid e → day_number d <ℤ day_number e → Earlier d e
less_earlier d e v w q = go (three_ways d e)
  where
    go : Tri (Earlier d e) (d ≡ e) (Earlier e d) → Earlier d e
    go (before h) = h
    go (same p) = absurd (omega (arith, less q, ap (λ x. plus (day_number x)) p, ap (λ x. minus (day_number x)) p))
    go (after h) = absurd (omega (arith, less q, less (earlier_less e d w v h)))

-- THE WALK INVERTS THE CLOSED FORMULA: a valid date is where the walk of its day number ends
pub walk_day : (d : Date) → Valid d → walk (day_number d) ≡ d
walk_day d v = day_one (walk (day_number d)) d (walk_valid (day_number d)) v (day_walk (day_number d))

-- what code that finds a date has to show
pub reads : (d : Date) (n : ℤ) → Valid d → day_number d ≡ n → d ≡ walk n
reads d n v e = sym (walk_day d v) ∙ ap walk e

-- a later day is a later date
pub walk_order : (m n : ℤ) → m <ℤ n → Earlier (walk m) (walk n)
walk_order m n h =
    less_earlier (walk m) (walk n) (walk_valid m) (walk_valid n)
    (subst (λ x. x <ℤ day_number (walk n)) (sym (day_walk m)) (subst (λ x. m <ℤ x) (sym (day_walk n)) h))
