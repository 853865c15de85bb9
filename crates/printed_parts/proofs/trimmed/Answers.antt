-- `printed_parts::trimmed`: zeros at the end may go at once (`trim_zeros`, `trim_down`), and any other digit stays (`trim_stop`).
use Rattle.std.proofs.Common.{◌≡◌, refl, ℕ, ◌+◌, ◌-◌, ◌*◌, sym, ap, ◌∙◌, arith}
use Rattle.digits.specs.Digits.{digits}
use Rattle.printed_parts.specs.Text.{trim, fraction_text}
use Rattle.printed_parts.proofs.Fraction.{trim_down, trim_zeros, trim_stop}
use Rattle.printed_parts.proofs.trimmed.Goals as goal
use Rattle.printed_parts.proofs.trimmed.Goals.{then-millis-nanos, else-millis-nanos}

-- six zeros at the end
six : (n k : ℕ) → k * 1000000 ≡ n → trim (digits 9 n) ≡ trim (digits 3 k)
six n k h = ap (λ x. trim (digits 9 x)) (sym h) ∙ trim_zeros 6 3 k

pub loop-before-init : goal.loop-before-init
loop-before-init c =
    elim c.if-millis-nanos.branch [
      | then-millis-nanos w ↦ rw w.width-is (record { nine = omega arith; small = omega arith; trimmed = six c.args.nanos _ w.if-millis-nanos.true })
      | else-millis-nanos w ↦ rw w.width-is (record { nine = omega arith; small = omega arith; trimmed = refl })
    ]

pub returns-then-split-ne0 : goal.returns-then-split-ne0
unfolding fraction_text
returns-then-split-ne0 c =
    let e : c.loop-before.before - 1 + 1 ≡ c.loop-before.before = omega arith in
    rw (c.loop-before.invariant.trimmed ∙ trim_stop _ _ (λ l. omega arith), ← e) c.behind_point.ensures

pub loop-before-preserved : goal.loop-before-preserved
loop-before-preserved c = record {
  nine = omega arith;
  small = omega arith;
  trimmed = c.loop-before.invariant.trimmed ∙ rw c.split_last_digit-split.ensures.0 (trim_down _ _ (omega arith) (omega arith));
}

pub returns : goal.returns
unfolding fraction_text
returns c =
    let z : c.loop-before.before ≡ 0 = omega arith in
    rw (c.loop-before.invariant.trimmed ∙ trim_stop _ _ (λ l e. omega arith), z) c.behind_point-2.ensures
