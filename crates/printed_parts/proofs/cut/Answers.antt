-- `printed_parts::cut`: a digit that the precision leaves out may go at once (`take_down`).
use Rattle.std.proofs.Common.{◌≡◌, ◌+◌, ◌-◌, sym, ◌∙◌, take, arith}
use Rattle.digits.specs.Digits.{digits}
use Rattle.printed_parts.specs.Text.{fraction_text}
use Rattle.printed_parts.proofs.Fraction.{take_nine, take_down, take_stop}
use Rattle.printed_parts.proofs.cut.Goals as goal

pub loop-preserved : goal.loop-preserved
loop-preserved c =
    let w = c.min-width.result in
    let i = c.loop.counter in
    let e : w + 9 - (i + 1) ≡ w + 9 - i - 1 = omega arith in
    record {
      small = omega arith;
      first = c.loop.invariant.first ∙ rw (e, c.split_last_digit-value.ensures.0) (take_down _ _ _ (omega arith));
    }

pub returns : goal.returns
unfolding fraction_text
returns c =
    let w = c.min-width.result in
    let e : w + 9 - c.loop.counter ≡ w = omega arith in
    let k : take w (digits 9 c.args.nanos) ≡ take c.args.precision (digits 9 c.args.nanos) = rw c.min-width.ensures (take_nine c.args.precision c.args.nanos) in
    let q : take c.args.precision (digits 9 c.args.nanos) ≡ digits w c.loop.value = sym k ∙ c.loop.invariant.first ∙ rw e (take_stop w w c.loop.value (omega arith)) in
    rw q c.behind_point.ensures
