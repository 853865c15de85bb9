-- `calendar::is_leap`: each remainder is tested on the machine's bits (`rem_test`).
use Rattle.std.proofs.Common.{sym, ◌∙◌, eq-eqb}
use borrow.Author.Tests.{ne_eqb}
use Rattle.calendar.proofs.Leap.{rem_test, leap_century, leap_other}
use Rattle.calendar.proofs.is_leap.Goals as goal

pub returns-then-year-eq0 : goal.returns-then-year-eq0
returns-then-year-eq0 c = rem_test 16 c.ranges.year ∙ leap_century _ (sym (rem_test 100 c.ranges.year) ∙ eq-eqb _ _ c.if-year-eq0.true)

pub returns-else-year-eq0 : goal.returns-else-year-eq0
returns-else-year-eq0 c = rem_test 4 c.ranges.year ∙ leap_other _ (sym (rem_test 100 c.ranges.year) ∙ ne_eqb _ _ c.if-year-eq0.false)
