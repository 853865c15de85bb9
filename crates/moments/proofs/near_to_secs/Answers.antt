-- `moments::near_to_secs`.
use Rattle.std.proofs.Common.{◌≤◌, ap, ◌∙◌, sym, subst, arith, nat_abs, ◌-ℤ◌, to_z-of_z, w64, SFits}
use Rattle.integers.specs.Integers.{checked}
use Rattle.integers.proofs.Signed.{size_law, le_true}
use Rattle.integers.proofs.Machine.{signed, known, known64}
use Rattle.integers.proofs.Sums.{exact_if, inside, is_checked}
use Rattle.moments.proofs.Moments.{seconds_near}
use Rattle.moments.proofs.near_to_secs.Goals as goal

pub overflow_sub-result : goal.overflow_sub-result
overflow_sub-result c =
    let secs = c.secs_from_1970-secs in
    let e = known c.ranges.epoch in
    let r = known64 secs.result secs.type_inv in
    let small = subst (λ z. nat_abs z ≤ 400_000_000_000_000_000) (sym secs.ensures) (seconds_near c.args.m c.requires.0 c.requires.1 c.requires.2) in
    omega (arith, signed, le_true, small, size_law secs.result)

pub returns-then-epoch-le-NEAR_EPOCHS : goal.returns-then-epoch-le-NEAR_EPOCHS
returns-then-epoch-le-NEAR_EPOCHS c =
    let secs = c.secs_from_1970-secs in
    let f = c.ranges.epoch in
    let g = (known64 secs.result secs.type_inv).self in
    let h : SFits w64 (secs.result -ℤ c.args.epoch) = simp to_z-of_z at (overflow_sub-result c) in
    simp to_z-of_z (rw (← secs.ensures) (exact_if _ (inside _ h)))

pub returns : goal.returns
returns c =
    let secs = c.secs_from_1970-secs in
    let h = simp (to_z-of_z, (known64 secs.result secs.type_inv).self, c.ranges.epoch) at c.checked_sub.ensures in
    is_checked c.checked_sub.result (secs.result -ℤ c.args.epoch) h ∙ ap (λ z. checked (z -ℤ c.args.epoch)) secs.ensures
