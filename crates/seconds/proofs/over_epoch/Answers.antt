-- `seconds::over_epoch`: the call tells whether the exact sum is an i64.
use Rattle.std.proofs.Common.{◌≡◌, ℤ, ℕ, ap, ◌∙◌, sym, ◌+ℤ◌, ◌-ℤ◌, to_z-of_z, w64, SFits, rules}
use Rattle.integers.specs.Integers.{checked}
use Rattle.errors.specs.Refusals.{gives}
use Rattle.seconds.specs.Counts.{over_epoch}
use Rattle.seconds.proofs.Checks.{given, one_good, in_turn, bad_nanos, not_representable}
use Rattle.seconds.proofs.over_epoch.Goals as goal
use Rattle.seconds.proofs.over_epoch.Goals.{After-checked_sum}

sum : (c : After-checked_sum) → c.checked_sum.result ≡ checked (c.args.old -ℤ c.args.new +ℤ c.args.secs)
sum c = (simp (to_z-of_z, c.ranges.old, c.ranges.new, c.ranges.secs) at c.checked_sum.ensures) ∙ ap checked (in_turn c.args.old c.args.secs c.args.new)

pub returns-in_err-check_nanos : goal.returns-in_err-check_nanos
unfolding over_epoch
returns-in_err-check_nanos c = bad_nanos _ _ c.args.nanos c.from_residual.result _ c.from_residual.ensures.1 c.in_err-check_nanos.ensures

pub returns-in_err-moved : goal.returns-in_err-moved
unfolding over_epoch
returns-in_err-moved c =
    let e = c.in_err-moved.ensures in
    not_representable _ _ _ (sum (search)) c.from_residual-in_err-moved.result _ c.from_residual-in_err-moved.ensures.1 e.value e.ok_part
    ∙ sym (one_good c.in_ok-check_nanos.ensures)

pub returns : goal.returns
unfolding over_epoch
returns c =
    let form : ℤ → ℤ × ℕ = λ x. (x, c.args.nanos) in
    let f : SFits w64 c.in_ok-moved.moved = search rules in
    ap (λ x. gives (form x)) (to_z-of_z {w = w64} f) ∙ given _ (sum (search)) form c.in_ok-moved.ensures.ok_part ∙ sym (one_good c.in_ok-check_nanos.ensures)
