-- `TaiTime::new`.
use Rattle.std.proofs.Common.{ap, ◌∙◌, sym, to_z-of_z, w64}
use Rattle.errors.specs.Refusals.{gives}
use Rattle.counts.specs.Counts.{new_time}
use Rattle.seconds.proofs.Checks.{one_good, bad_nanos}
use Rattle.counts.proofs.TaiTime.new.Goals as goal

pub returns-in_err-check_nanos : goal.returns-in_err-check_nanos
unfolding new_time
returns-in_err-check_nanos c = bad_nanos _ _ c.args.nanos c.from_residual.result _ c.from_residual.ensures.1 c.in_err-check_nanos.ensures

pub returns : goal.returns
unfolding new_time
returns c = ap (λ x. gives (x, c.args.nanos)) (to_z-of_z {w = w64} c.ranges.secs) ∙ sym (one_good c.in_ok-check_nanos.ensures)
