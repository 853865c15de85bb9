-- `printed_parts::width_of`: the width that is found is the least (`width_is`).
use Rattle.std.proofs.Common.{◌≡◌, ◌+◌, ◌*◌, ◌-◌, ◌^◌, ◌<◌, sym, add-one, arith}
use native.Mathlib.Nat.{pow-succ'}
use Rattle.digits.proofs.Width.{power_lt, width_is}
use Rattle.printed_parts.proofs.width_of.Goals as goal

pub returns-then-size-lt10000 : goal.returns-then-size-lt10000
returns-then-size-lt10000 c = sym (width_is 4 c.args.size (omega arith) (record { from = omega arith; room = omega arith; least = λ l. absurd (omega arith) }))

pub returns-else-size-lt10000 : goal.returns-else-size-lt10000
returns-else-size-lt10000 c =
    let k = c.ilog10.result in
    let e : 10 ^ (k + 1) ≡ 10 * 10 ^ k = rw (add-one, pow-succ') in
    let room : c.args.size < 10 ^ (k + 1) = rw e c.ilog10.ensures.next_power_gt in
    let d : k + 1 - 1 ≡ k = omega arith in
    sym (width_is (k + 1) c.args.size (omega arith) (record { from = omega (arith, power_lt 4 (k + 1) (omega arith)); room = room; least = λ l. rw d c.ilog10.ensures.power_le }))
