-- `calendar::is_day_of_month`: no month has fewer than 28 days (`length_low`).
use Rattle.std.proofs.Common.{sym, ◌∙◌, arith, le-leb}
use Rattle.calendar.specs.Walk.{month_length}
use Rattle.calendar.proofs.Months.{length_low}
use Rattle.calendar.proofs.is_day_of_month.Goals as goal

pub returns-then-day-le28 : goal.returns-then-day-le28
returns-then-day-le28 c = le-leb _ _ c.if-day-le28.true ∙ sym (le-leb c.args.day (month_length c.args.year c.args.month) (omega (arith, length_low c.args.year c.args.month c.requires.0 c.requires.1)))
