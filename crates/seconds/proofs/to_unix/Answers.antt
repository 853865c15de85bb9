-- `seconds::to_unix`: the call tells whether the exact sum is an i64.
use Rattle.std.proofs.Common.{◌≡◌, ℤ, ap, ◌∙◌, sym, ◌+ℤ◌, ◌-ℤ◌, to_z-of_z, w64, SFits, rules}
use Rattle.integers.specs.Integers.{checked}
use Rattle.errors.specs.Refusals.{gives}
use Rattle.seconds.specs.Counts.{to_unix}
use Rattle.seconds.proofs.Checks.{given, one_good, in_turn, bad_nanos, not_representable}
use Rattle.seconds.proofs.to_unix.Goals as goal
use Rattle.seconds.proofs.to_unix.Goals.{After-checked_sum}

sum : (c : After-checked_sum) → c.checked_sum.result ≡ checked (c.args.secs -ℤ c.args.leap +ℤ c.args.epoch)
sum c = (simp (to_z-of_z, c.ranges.secs, c.ranges.leap, c.ranges.epoch) at c.checked_sum.ensures) ∙ ap checked (in_turn c.args.secs c.args.epoch c.args.leap)

pub returns-in_err-check_nanos : goal.returns-in_err-check_nanos
unfolding to_unix
returns-in_err-check_nanos c = bad_nanos _ _ c.args.nanos c.from_residual.result _ c.from_residual.ensures.1 c.in_err-check_nanos.ensures

pub returns-in_err-unix : goal.returns-in_err-unix
unfolding to_unix
returns-in_err-unix c =
    let e = c.in_err-unix.ensures in
    not_representable _ _ _ (sum (search)) c.from_residual-in_err-unix.result _ c.from_residual-in_err-unix.ensures.1 e.value e.ok_part
    ∙ sym (one_good c.in_ok-check_nanos.ensures)

pub returns : goal.returns
unfolding to_unix
returns c =
    let form : ℤ → ℤ = λ x. x in
    let f : SFits w64 c.in_ok-unix.unix = search rules in
    ap (λ x. gives (form x)) (to_z-of_z {w = w64} f) ∙ given _ (sum (search)) form c.in_ok-unix.ensures.ok_part ∙ sym (one_good c.in_ok-check_nanos.ensures)
