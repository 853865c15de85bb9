-- `calendar::day_of_year`.
use Rattle.std.proofs.Common.{◌+◌, ◌-◌, ap, ◌∙◌, arith, rules, to_z-of_z, w64}
use Rattle.calendar.specs.Walk.{is_leap, month_row}
use Rattle.calendar.specs.Closed.{sum_to, day_of_year}
use Rattle.calendar.proofs.Years.{some_length}
use Rattle.calendar.proofs.Months.{sum_grows, year_sum}
use Rattle.calendar.proofs.day_of_year.Goals as goal

pub overflow_add-result : goal.overflow_add-result
overflow_add-result c =
    let b = c.is_leap.result in
    omega (arith, c.doy_at_month.ensures, sum_grows (month_row b) (c.args.d.month - 1) 12 (omega (arith, c.requires.month_to)), year_sum b, some_length b)

pub returns : goal.returns
unfolding day_of_year
returns c =
    ap (λ n. n + (c.args.d.day - 1)) (c.doy_at_month.ensures ∙ ap (λ b. sum_to (month_row b) (c.args.d.month - 1)) (c.is_leap.ensures ∙ ap is_leap (to_z-of_z {w = w64} (search rules))))
