-- `calendar::month_and_day_of_month`.
use Rattle.std.proofs.Common.{◌≡◌, suc, ◌+◌, ◌<◌, ap, ◌∙◌, arith, to_z-of_z, w64}
use Rattle.calendar.specs.Walk.{is_leap, month_row}
use Rattle.calendar.specs.Closed.{sum_to}
use Rattle.calendar.proofs.Months.{sum_suc, month_top, month_found}
use Rattle.calendar.proofs.month_and_day_of_month.Goals as goal
use Rattle.calendar.proofs.month_and_day_of_month.Goals.{After-doy_at_month}

-- a day of a month, counted from 0, is below 31
short : (c : After-doy_at_month) → c.args.doy < c.doy_at_month.result + 31
short c =
    let row = month_row c.is_leap-leap.result in
    let i = c.month_at_doy-index.result in
    let e : sum_to row (i + 1) ≡ sum_to row (suc i) = ap (sum_to row) (omega arith) in
    omega (arith, c.doy_at_month.ensures, c.month_at_doy-index.ensures.2, sum_suc row i, month_top c.is_leap-leap.result i (omega (arith, c.month_at_doy-index.ensures.0)))

pub overflow_cast-result-2 : goal.overflow_cast-result-2
overflow_cast-result-2 c = omega (arith, short (search))

pub overflow_add-result-2 : goal.overflow_add-result-2
overflow_add-result-2 c = omega (arith, short (search))

pub returns : goal.returns
returns c =
    let l : c.is_leap-leap.result ≡ is_leap c.args.year = c.is_leap-leap.ensures ∙ ap is_leap (to_z-of_z {w = w64} c.ranges.year) in
    rw (c.doy_at_month.ensures, l) (month_found c.args.year c.args.doy c.month_at_doy-index.result (rw l at c.month_at_doy-index.ensures))
