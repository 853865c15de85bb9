-- `durations::since`: the seconds, less one where the nanoseconds borrow.
use Rattle.std.proofs.Common.{◌≡◌, ◌∙◌, sym, arith, ℕ, zero, suc, ◌+◌, ◌≤◌, ◌-ℤ◌, nat_abs, refl, ap, to_z-of_z}
use Rattle.integers.proofs.Signed.{plus, minus}
use Rattle.integers.proofs.Machine.{signed, two}
use Rattle.errors.specs.Refusals.{refuses, of_count}
use Rattle.errors.proofs.Told.{handed_on}
use Rattle.durations.specs.Durations as Durations
use Rattle.seconds.proofs.Checks.{one_good, both_good, bad_nanos, no_sum}
use Rattle.durations.proofs.Nanos.{difference_law, duration_at_lem, duration_none, behind, no_value, the_value}
use Rattle.durations.proofs.since.Goals as goal
use Rattle.durations.proofs.since.Goals.{After-abs_diff-difference}

far : (c : After-abs_diff-difference) → plus c.args.earlier_secs + minus c.args.secs ≤ plus c.args.secs + minus c.args.earlier_secs
    → c.abs_diff-difference.result + plus c.args.earlier_secs + minus c.args.secs ≡ plus c.args.secs + minus c.args.earlier_secs
far c h =
    let e : c.abs_diff-difference.result ≡ nat_abs (c.args.secs -ℤ c.args.earlier_secs) = simp (to_z-of_z, c.ranges.secs, c.ranges.earlier_secs) at c.abs_diff-difference.ensures in
    omega (arith, e, behind c.args.secs c.args.earlier_secs h)

pub returns-in_err-check_nanos : goal.returns-in_err-check_nanos
unfolding Durations.since
returns-in_err-check_nanos c = bad_nanos _ _ c.args.nanos c.from_residual.result _ c.from_residual.ensures.1 c.in_err-check_nanos.ensures

pub returns-in_err-check_nanos-2 : goal.returns-in_err-check_nanos-2
unfolding Durations.since
returns-in_err-check_nanos-2 c =
    bad_nanos _ _ c.args.earlier_nanos c.from_residual-in_err-check_nanos-2.result _ c.from_residual-in_err-check_nanos-2.ensures.1 c.in_err-check_nanos-2.ensures
    ∙ sym (one_good c.in_ok-check_nanos.ensures)

pub returns-then-secs-earlier_secs : goal.returns-then-secs-earlier_secs
unfolding Durations.since
returns-then-secs-earlier_secs c =
    let l = difference_law c.args.secs c.args.nanos c.args.earlier_secs c.args.earlier_nanos in
    let m = two c.ranges.secs c.ranges.earlier_secs in
    let n = c.in_ok-check_nanos.ensures in
    let k = c.in_ok-check_nanos-2.ensures in
    duration_none _ (omega (arith, signed)) ∙ sym (both_good n k)

pub returns-then-earlier_nanos-nanos : goal.returns-then-earlier_nanos-nanos
unfolding Durations.since
returns-then-earlier_nanos-nanos c =
    let l = difference_law c.args.secs c.args.nanos c.args.earlier_secs c.args.earlier_nanos in
    let m = two c.ranges.secs c.ranges.earlier_secs in
    let d = far (search) (omega (arith, signed)) in
    let n = c.in_ok-check_nanos.ensures in
    let k = c.in_ok-check_nanos-2.ensures in
    duration_at_lem _ (omega arith) (omega arith) ∙ sym (both_good n k)

pub returns-in_err-less_one : goal.returns-in_err-less_one
unfolding Durations.since
returns-in_err-less_one c =
    let l = difference_law c.args.secs c.args.nanos c.args.earlier_secs c.args.earlier_nanos in
    let m = two c.ranges.secs c.ranges.earlier_secs in
    let d = far (search) (omega (arith, signed)) in
    let e = c.in_err-less_one.ensures in
    let z : c.abs_diff-difference.result ≡ 0 = none _ (no_value _ c.checked_sub.result c.checked_sub.ensures e.ok_part) in
    let r = c.from_residual-in_err-less_one in
    let n = c.in_ok-check_nanos.ensures in
    let k = c.in_ok-check_nanos-2.ensures in
    handed_on _ of_count r.result _ r.ensures.1 ∙ ap (λ e. refuses (of_count e)) (no_sum e.value e.ok_part) ∙ duration_none _ (omega arith) ∙ sym (both_good n k)
  where
    none : (d : ℕ) → (1 ≤ d → ⊥) → d ≡ 0
    none zero h = refl
    none (suc d) h = absurd (h (omega arith))

pub returns : goal.returns
unfolding Durations.since
returns c =
    let l = difference_law c.args.secs c.args.nanos c.args.earlier_secs c.args.earlier_nanos in
    let m = two c.ranges.secs c.ranges.earlier_secs in
    let d = far (search) (omega (arith, signed)) in
    let v = the_value c.checked_sub.result c.checked_sub.ensures c.in_ok-less_one.ensures.ok_part in
    let n = c.in_ok-check_nanos.ensures in
    let k = c.in_ok-check_nanos-2.ensures in
    duration_at_lem _ (omega arith) (omega (arith, v.0, v.1)) ∙ sym (both_good n k)
