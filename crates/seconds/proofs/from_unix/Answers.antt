-- `seconds::from_unix`: the call tells whether the exact sum is an i64.
use Rattle.std.proofs.Common.{◌≡◌, ℤ, ℕ, ◌/◌, ◌%◌, ap, ◌∙◌, pos, ◌+ℤ◌, ◌-ℤ◌, to_z-of_z, w64, SFits, rules}
use Rattle.integers.specs.Integers.{checked}
use Rattle.errors.specs.Refusals.{gives}
use Rattle.seconds.specs.Counts.{from_unix}
use Rattle.seconds.proofs.Checks.{given, not_representable}
use Rattle.seconds.proofs.from_unix.Goals as goal
use Rattle.seconds.proofs.from_unix.Goals.{After-checked_sum}

sum : (c : After-checked_sum) → c.checked_sum.result ≡ checked (c.args.unix +ℤ pos (c.args.nanos / 1000000000) +ℤ c.args.leap -ℤ c.args.epoch)
sum c = simp (to_z-of_z, c.ranges.unix, c.ranges.leap, c.ranges.epoch) at c.checked_sum.ensures

pub returns-in_err-secs : goal.returns-in_err-secs
unfolding from_unix
returns-in_err-secs c =
    let e = c.in_err-secs.ensures in
    not_representable _ _ _ (sum (search)) c.from_residual.result _ c.from_residual.ensures.1 e.value e.ok_part

pub returns : goal.returns
unfolding from_unix
returns c =
    let form : ℤ → ℤ × ℕ = λ x. (x, c.args.nanos % 1000000000) in
    let f : SFits w64 c.in_ok-secs.secs = search rules in
    ap (λ x. gives (form x)) (to_z-of_z {w = w64} f) ∙ given _ (sum (search)) form c.in_ok-secs.ensures.ok_part
