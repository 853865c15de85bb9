-- `calendar::year_in_cycle`: the first year of a common century (`in_common`), and any other (`in_other`).
use Rattle.std.proofs.Common.{arith, ltb-true, ltb-false}
use Rattle.calendar.proofs.Cycle.{in_common, in_other}
use Rattle.calendar.proofs.year_in_cycle.Goals as goal
use Rattle.calendar.proofs.year_in_cycle.Goals.{else-n1-eq0-via-then-n1-eq0+else-n100-gt0, else-n1-eq0-via-else-n1-eq0}

pub returns-then-n100-gt0 : goal.returns-then-n100-gt0
returns-then-n100-gt0 c = in_common c.args.day c.requires c.if-n1-eq0.true (omega (arith, ltb-true))

pub returns-else-n1-eq0 : goal.returns-else-n1-eq0
returns-else-n1-eq0 c =
    in_other c.args.day c.requires
    (λ e. elim c.else-n1-eq0.branch [ else-n1-eq0-via-then-n1-eq0+else-n100-gt0 w ↦ omega (arith, ltb-false) | else-n1-eq0-via-else-n1-eq0 w ↦ absurd (omega arith) ])
