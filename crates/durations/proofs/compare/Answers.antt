-- `durations::compare`: seconds first, then nanoseconds, is the order of the exact counts.
use Rattle.std.proofs.Common.{◌≡◌, ◌∙◌, sym, ap, to_z-of_z, int_cmp}
use Rattle.std.specs.Ordering.{ordering_then}
use Rattle.errors.specs.Refusals.{gives}
use Rattle.durations.specs.Durations.{compared}
use Rattle.durations.proofs.Nanos.{order_parts}
use Rattle.seconds.proofs.Checks.{one_good, both_good, bad_nanos}
use Rattle.durations.proofs.compare.Goals as goal

pub returns-in_err-check_nanos : goal.returns-in_err-check_nanos
unfolding compared
returns-in_err-check_nanos c = bad_nanos _ _ c.args.nanos c.from_residual.result _ c.from_residual.ensures.1 c.in_err-check_nanos.ensures

pub returns-in_err-check_nanos-2 : goal.returns-in_err-check_nanos-2
unfolding compared
returns-in_err-check_nanos-2 c =
    bad_nanos _ _ c.args.other_nanos c.from_residual-in_err-check_nanos-2.result _ c.from_residual-in_err-check_nanos-2.ensures.1 c.in_err-check_nanos-2.ensures
    ∙ sym (one_good c.in_ok-check_nanos.ensures)

pub returns : goal.returns
unfolding compared
returns c =
    let s : c.cmp.result ≡ int_cmp c.args.secs c.args.other_secs = simp (to_z-of_z, c.ranges.secs, c.ranges.other_secs) at c.cmp.ensures in
    ap gives (c.then.ensures ∙ ap (λ o. ordering_then o c.cmp-2.result) s ∙ ap (λ o. ordering_then (int_cmp c.args.secs c.args.other_secs) o) c.cmp-2.ensures
    ∙ order_parts c.args.secs c.args.nanos c.args.other_secs c.args.other_nanos c.in_ok-check_nanos.ensures c.in_ok-check_nanos-2.ensures)
    ∙ sym (both_good c.in_ok-check_nanos.ensures c.in_ok-check_nanos-2.ensures)
