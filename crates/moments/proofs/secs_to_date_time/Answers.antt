-- `moments::secs_to_date_time`: there is but one day and second of the exact sum since year 0.
use Rattle.std.proofs.Common.{rules, pos, ◌+ℤ◌, to_z-of_z, w64, SFits}
use Rattle.integers.proofs.Floor.{PartsOf}
use Rattle.moments.proofs.Moments.{days_of_cycles, moment_of}
use Rattle.moments.proofs.secs_to_date_time.Goals as goal

pub returns : goal.returns
returns c =
    let f = c.ranges.seconds in
    let g = c.ranges.epoch in
    let h : SFits w64 c.from_year_0-parts.result.quotient = search rules in
    let parts : PartsOf 12622780800 (c.args.seconds +ℤ c.args.epoch +ℤ pos 62167219200) c.from_year_0-parts.result = simp to_z-of_z at c.from_year_0-parts.ensures in
    moment_of _ _ (days_of_cycles parts) (simp to_z-of_z at c.date_in_cycle.ensures) c.time_at.ensures
