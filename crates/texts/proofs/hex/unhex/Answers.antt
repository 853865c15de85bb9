-- `texts::hex::unhex`: a pair more (`take-suc-set`), and at the end at most one digit is left.
use Rattle.std.proofs.Common.{◌≡◌, refl, ℕ, suc, ◌+◌, ◌*◌, ◌/◌, ◌≤◌, List, [], ◌∷◌, sym, ◌∙◌, length, drop, length-drop, drop-cons, append_assoc, add-one, arith}
use mathlib.Core.List.{append-nil}
use lib.Seq.{take-suc-set}
use Rattle.texts.specs.Hex.{hex_bytes}
use Rattle.texts.proofs.hex.unhex.Goals as goal

end : (s : List ℕ) → length s ≤ 1 → hex_bytes s ≡ []
unfolding hex_bytes
end [] h = refl
end (x ∷ []) h = refl
end (x ∷ y ∷ s) h = absurd (omega arith)

pub loop-n-preserved : goal.loop-n-preserved
unfolding hex_bytes
loop-n-preserved c =
    let n = c.loop-n.n in
    let s = c.args.hex.now in
    let e : 2 * (n + 1) ≡ suc (2 * n + 1) = omega arith in
    c.loop-n.invariant ∙ rw (drop-cons s (2 * n) 0 (omega arith), e, ← add-one (2 * n), drop-cons s (2 * n + 1) 0 (omega arith), ← c.digit_value.ensures.value, ← c.digit_value-in-loop-n.ensures.value, add-one n, take-suc-set c.loop-n.bytes n _ (omega arith), append_assoc)

pub returns : goal.returns
returns c =
    let s = c.args.hex.now in
    let n : c.loop-n.n ≡ length s / 2 = omega arith in
    record {
      front = sym (c.loop-n.invariant ∙ rw (n, end (drop (2 * (length s / 2)) s) (rw length-drop (omega arith)), append-nil));
      within = omega arith;
      half = omega arith;
    }
