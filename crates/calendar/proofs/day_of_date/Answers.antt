-- `calendar::day_of_date`: years that start with March (`march_rule`).
use Rattle.std.proofs.Common.{◌≡◌, ℕ, ◌+◌, ◌-◌, ◌*◌, ◌/◌, ◌≤◌, ◌<◌, ◌^◌, ◌⊎◌, inl, inr, Bool, true, false, cond, ltb, ℤ, pos, nat_abs, ◌+ℤ◌, ◌-ℤ◌, sym, ap, subst, ◌∙◌, arith, rules, to_z-of_z, w64, SFits, to_z, of_z, lt-ltb, le-ltb}
use lib.IntN.{suc_ℤ}
use mir.Facts.{to_z_pos}
use Rattle.integers.proofs.Signed.{plus, minus, eq_z, apart, size_law, add_law, diff_law, suc_law}
use Rattle.integers.proofs.Machine.{Small, small_size, small_add, small_sub, small_fits, small_pos}
use Rattle.calendar.specs.declared.Date.{Date}
use Rattle.calendar.specs.Walk.{is_leap, month_row, Valid}
use Rattle.calendar.specs.Closed.{year_start, sum_to, day_of_year, day_number}
use Rattle.calendar.proofs.Years.{start_step, start_near}
use Rattle.calendar.proofs.Months.{march, march_rule}
use Rattle.calendar.proofs.Walk.{day_law}
use Rattle.calendar.proofs.day_of_date.Goals as goal
use Rattle.calendar.proofs.day_of_date.Goals.{After-days_from_year_0, then-d-lt3, else-d-lt3}

-- the year that ends in a February or starts with a March, and the days of it
abbrev year_in : Bool → Date → ℤ
year_in early d = cond early d.year (d.year +ℤ pos 1)

abbrev month_in : Bool → Date → ℕ
month_in early d = cond early (d.month + 12) d.month

abbrev days_in : Bool → Date → ℕ
days_in early d = (month_in early d * 979 - 2919) / 32 + d.day

march_day : (d : Date) → Valid d → let early = ltb d.month 3 in year_start (year_in early d) +ℤ pos (days_in early d) -ℤ pos 719835 ≡ day_number d
unfolding day_of_year
march_day d v = go (ltb d.month 3) (march_rule (is_leap d.year) d.month v.month_from v.month_to)
  where
    go : (t : Bool) → march t (is_leap d.year) d.month ≡ sum_to (month_row (is_leap d.year)) (d.month - 1) + 306 → year_start (year_in t d) +ℤ pos (days_in t d) -ℤ pos 719835 ≡ day_number d
    go true e =
        let y = year_start d.year in
        let n = pos (days_in true d) in
        eq_z _ _ (omega (arith, v.day_from, day_law d, add_law y n, diff_law (y +ℤ n) (pos 719835)))
    go false e =
        let y = year_start (d.year +ℤ pos 1) in
        let n = pos (days_in false d) in
        let s : d.year +ℤ pos 1 ≡ suc_ℤ d.year = eq_z _ _ (omega (arith, add_law d.year (pos 1), suc_law d.year)) in
        eq_z _ _ (omega (arith, v.day_from, day_law d, ap (λ z. plus (year_start z)) s, ap (λ z. minus (year_start z)) s, start_step d.year, add_law y n, diff_law (y +ℤ n) (pos 719835)))

year_top : (t : Bool) (d : Date) → nat_abs d.year ≤ 1_000_000_000_000 → nat_abs (year_in t d) ≤ 1_000_000_000_001
year_top true d h = omega arith
year_top false d h =
    let z = d.year +ℤ pos 1 in omega (arith, size_law d.year, size_law z, apart z, add_law d.year (pos 1))

-- each value fits: z is the year's first day, n the days of it
record Fit (d : Date) (z : ℤ) (n : ℕ) : Type 0 where
  start : SFits w64 z
  day : to_z w64 n ≡ pos n
  s₁ : SFits w64 (z +ℤ pos n)
  s₂ : SFits w64 (z +ℤ pos n -ℤ pos 719835)
  is : z +ℤ pos n -ℤ pos 719835 ≡ day_number d

fit : (d : Date) (z : ℤ) (n : ℕ) → nat_abs d.year ≤ 1_000_000_000_000 → Valid d → n ≤ 1000 → let early = ltb d.month 3 in z ≡ year_start (year_in early d) → n ≡ days_in early d → Fit d z n
fit d z n h v k e f =
    let y = year_in (ltb d.month 3) d in
    let a : Small 400_000_000_000_000 z = small_size (subst (λ x. nat_abs x ≤ 400_000_000_000_000) (sym e) (omega (arith, start_near y, year_top (ltb d.month 3) d h))) in
    let b = small_add a (small_pos {b = 1000} n k) in
    record { start = small_fits tt a; day = to_z_pos w64 (omega arith); s₁ = small_fits tt b; s₂ = small_fits tt (small_sub b (small_pos {b = 719835} 719835 (omega arith))); is = ap (λ x. x +ℤ pos n -ℤ pos 719835) e ∙ ap (λ x. year_start y +ℤ pos x -ℤ pos 719835) f ∙ march_day d v }

-- the code's month and year, and with them each value
whole : (d : Date) (month : ℕ) {z : ℤ} → nat_abs d.year ≤ 1_000_000_000_000 → Valid d → d.day < 2 ^ 8 → month ≡ month_in (ltb d.month 3) d → z ≡ year_start (year_in (ltb d.month 3) d) → Fit d z ((month * 979 - 2919) / 32 + d.day)
whole d month h v l m e = fit d _ _ h v (omega (arith, month_top (ltb d.month 3) d v.month_to)) e (ap (λ n. (n * 979 - 2919) / 32 + d.day) m)
  where
    month_top : (t : Bool) (d : Date) → d.month ≤ 12 → month_in t d ≤ 24
    month_top true d h = omega arith
    month_top false d h = omega arith

-- the year and the month that the code chooses, and the year as the machine reads it back
abbrev chosen : Bool → Date → ℤ × ℕ
chosen early d = (year_in early d, month_in early d)

chosen_is : (d : Date) {p : ℤ × ℕ} → SFits w64 d.year → nat_abs d.year ≤ 1_000_000_000_000 → ((d.month < 3) × (p ≡ (to_z w64 (of_z w64 d.year), d.month + 12))) ⊎ ((3 ≤ d.month) × (p ≡ (to_z w64 (of_z w64 (to_z w64 (of_z w64 d.year) +ℤ pos 1)), d.month))) → p ≡ chosen (ltb d.month 3) d
chosen_is d f b (inl (h, e)) = e ∙ rw (lt-ltb d.month 3 h, to_z-of_z {w = w64} f)
chosen_is d f b (inr (h, e)) =
    let g : SFits w64 (d.year +ℤ pos 1) = small_fits tt (small_add (small_size {z = d.year} b) (small_pos {b = 1} 1 (omega arith))) in
    e ∙ rw (le-ltb d.month 3 h, to_z-of_z {w = w64} f, to_z-of_z {w = w64} g)

read_back : (d : Date) → nat_abs d.year ≤ 1_000_000_000_000 → let y = year_in (ltb d.month 3) d in to_z w64 (of_z w64 y) ≡ y
read_back d h = to_z-of_z {w = w64} (small_fits tt (small_size {b = 1_000_000_000_001} (year_top (ltb d.month 3) d h)))

here : (c : After-days_from_year_0) → Fit c.args.d c.days_from_year_0.result ((c.if-d-lt3.year.1 * 979 - 2919) / 32 + c.args.d.day)
here c =
    let d = c.args.d in
    let k = chosen_is d (search rules) c.requires.0 (elim c.if-d-lt3.branch [ then-d-lt3 w ↦ inl (w.if-d-lt3.true, w.year-is) | else-d-lt3 w ↦ inr (w.if-d-lt3.false, w.year-is) ]) in
    whole d _ c.requires.0 c.requires.1 (search rules) (ap (λ (p : ℤ × ℕ). p.1) k)
    (c.days_from_year_0.ensures ∙ ap (λ (p : ℤ × ℕ). year_start (to_z w64 (of_z w64 p.0))) k ∙ ap year_start (read_back d c.requires.0))

pub overflow_add-result-2 : goal.overflow_add-result-2
overflow_add-result-2 c = let k = here (search) in simp (to_z-of_z, k.start, k.day) k.s₁

pub overflow_sub-result-2 : goal.overflow_sub-result-2
overflow_sub-result-2 c = let k = here (search) in simp (to_z-of_z, k.start, k.day, k.s₁) k.s₂

pub returns : goal.returns
returns c = let k = here (search) in simp (to_z-of_z, k.start, k.day, k.s₁, k.s₂) k.is
