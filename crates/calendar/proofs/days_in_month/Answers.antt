-- `calendar::days_in_month`: the table has the two rows of the definition.
use Rattle.std.proofs.Common.{◌-◌, get_or, ap, ◌∙◌, to_z-of_z, w64}
use Rattle.calendar.specs.Walk.{is_leap, month_row, month_length}
use Rattle.calendar.proofs.Months.{rows}
use Rattle.calendar.proofs.days_in_month.Goals as goal

pub returns : goal.returns
unfolding month_row month_length
returns c =
    let m = c.args.month - 1 in
    rows month_row c.is_leap-leap.result m ∙ ap (λ b. get_or (month_row b) m 0) (c.is_leap-leap.ensures ∙ ap is_leap (to_z-of_z {w = w64} c.ranges.year))
