-- `calendar::date_in_cycle`: the date that is found is the walk's (`date_found`).
use Rattle.std.proofs.Common.{◌≡◌, ℕ, ◌≤◌, arith, ℤ, pos, nat_abs, ◌+ℤ◌, ◌*ℤ◌, to_z-of_z, w64, SFits, to_z}
use mir.Facts.{to_z_pos}
use Rattle.integers.proofs.Machine.{small_size, small_pos, small_add, small_mul, small_fits}
use Rattle.calendar.proofs.Cycle.{day_in_year, date_found}
use Rattle.calendar.proofs.date_in_cycle.Goals as goal

-- each value fits
record Fit (c : ℤ) (y : ℕ) : Type 0 where
  cycle : SFits w64 c
  years : SFits w64 (c *ℤ pos 400)
  found : to_z w64 y ≡ pos y
  year : SFits w64 (c *ℤ pos 400 +ℤ pos y)

fit : (c : ℤ) (y : ℕ) → SFits w64 c → nat_abs c ≤ 10_000_000_000 → y ≤ 400 → Fit c y
fit c y f h l =
    let m = small_size {z = c} h in
    let s = small_add (small_mul 400 m) (small_pos {b = 400} y l) in
    record { cycle = f; years = small_fits tt (small_mul 400 m); found = to_z_pos w64 (omega arith); year = small_fits tt s }

pub month_and_day_of_month-month-requires : goal.month_and_day_of_month-month-requires
month_and_day_of_month-month-requires c =
    let k = fit c.args.cycle c.year_in_cycle-found.result.year c.ranges.cycle c.requires.0 (omega (arith, c.year_in_cycle-found.ensures.year_to)) in
    simp (to_z-of_z, k.cycle, k.years, k.found, k.year) (day_in_year c.args.cycle _ _ _ c.year_in_cycle-found.ensures)

pub returns : goal.returns
returns c =
    let k = fit c.args.cycle c.year_in_cycle-found.result.year c.ranges.cycle c.requires.0 (omega (arith, c.year_in_cycle-found.ensures.year_to)) in
    let j = simp (to_z-of_z, k.cycle, k.years, k.found, k.year) at c.month_and_day_of_month-month.ensures in
    simp (to_z-of_z, k.cycle, k.years, k.found, k.year) (date_found c.args.cycle _ _ _ c.year_in_cycle-found.ensures _ _ j)
