-- `integers::floor_join`: the whole is m * divisor + rest, or -1 - (m * divisor + missing).
use Rattle.std.proofs.Common.{◌≡◌, ℕ, ◌+◌, ◌-◌, ◌*◌, ◌<◌, false, pos, negsuc, ◌+ℤ◌, ◌*ℤ◌, nat_abs, sym, ap, ◌∙◌, to_z-of_z, w64, SFits, to_z, of_z, rules, ltb-true}
use mir.Facts.{to_z_pos}
use lib.Signed.{lt_z}
use Rattle.integers.specs.Integers.{whole, checked, is_i64}
use Rattle.integers.specs.declared.Parts.{Parts}
use Rattle.std.specs.Prelude.{Some}
use Rattle.integers.proofs.Floor.{join_down}
use Rattle.integers.proofs.Machine.{known64, natural}
use Rattle.integers.proofs.Sums.{exact_if, none_if}
use Rattle.integers.proofs.floor_join.Goals as goal

-- below 0 the quotient is -1 - m, and the whole -1 - (m * divisor + missing)
down : (p : Parts) (k : ℕ) {m : ℕ} → SFits w64 p.quotient → p.rest < k → to_z w64 (of_z w64 p.quotient) ≡ negsuc m → whole k p ≡ negsuc (m * k + (k - 1 - p.rest))
unfolding whole
down p k f h e = ap (λ z. z *ℤ pos k +ℤ pos p.rest) (sym (to_z-of_z {w = w64} f) ∙ e) ∙ join_down _ k p.rest h

-- from 0 on it is m
up : (p : Parts) (k : ℕ) → SFits w64 p.quotient → lt_z (to_z w64 (of_z w64 p.quotient)) (pos 0) ≡ false → whole k p ≡ pos (nat_abs (to_z w64 (of_z w64 p.quotient)) * k + p.rest)
unfolding whole
up p k f e = ap (λ z. z *ℤ pos k +ℤ pos p.rest) (natural f e)

pub returns-then-is_below_top : goal.returns-then-is_below_top
unfolding is_i64
returns-then-is_below_top c =
    ap Some (to_z-of_z {w = w64} (known64 c.negative.result c.negative.type_inv).self ∙ c.negative.ensures) ∙ exact_if (negsuc _) (sym c.is_below_top.ensures ∙ c.if-is_below_top.true)
    ∙ sym (ap checked (down c.args.parts c.args.divisor (search rules) c.requires c.complement-below.ensures))

pub returns-then-quotient-lt0 : goal.returns-then-quotient-lt0
unfolding is_i64
returns-then-quotient-lt0 c = none_if (negsuc _) (sym c.is_below_top.ensures ∙ c.if-is_below_top.false) ∙ sym (ap checked (down c.args.parts c.args.divisor (search rules) c.requires c.complement-below.ensures))

pub returns-then-is_below_top-2 : goal.returns-then-is_below_top-2
unfolding is_i64
returns-then-is_below_top-2 c =
    ap Some (to_z_pos w64 (ltb-true _ _ (sym c.is_below_top-2.ensures ∙ c.if-is_below_top-2.true))) ∙ exact_if (pos _) (sym c.is_below_top-2.ensures ∙ c.if-is_below_top-2.true)
    ∙ sym (ap checked (up c.args.parts c.args.divisor (search rules) c.if-quotient-lt0.false))

pub returns : goal.returns
unfolding is_i64
returns c = none_if (pos _) (sym c.is_below_top-2.ensures ∙ c.if-is_below_top-2.false) ∙ sym (ap checked (up c.args.parts c.args.divisor (search rules) c.if-quotient-lt0.false))
