-- What `desk::answer` wrote, as a turn over the lines has it.
use mathlib.Core.Path.{◌≡◌, refl, sym, ap, ◌∙◌}
use mathlib.Core.Bool.{Bool, true, false}
use mathlib.Core.List.{List, [], ◌∷◌, ◌++◌}
use Prim.Native.Nat.{ℕ, ◌+◌, ◌<◌}
use native.Mathlib.Omega.{arith}
use lib.Dec.{ltb}
use lib.ListN.{length, drop, length-append}
use lib.Seq.{take-append_seam, drop-append_seam}
use borrow.Author.Tests.{ltb-true, ltb-false}
use Rattle.desk.specs.Answers.{answer_text, answered}
use Rattle.desk.proofs.Answered.{answered_front, answered_none, answer_too_long, answered_fits}
use Rattle.lines.proofs.Turns.{Wrote}

pub too_long : (s t : List ℕ) → 65535 < length s → 65535 < length t → answer_text s ≡ answer_text t
too_long s t h k = answer_too_long s h ∙ sym (answer_too_long t k)

module _ (s out : List ℕ) {w : ℕ} {out' : List ℕ} (answer : (w, out') ≡ answered s out) where
  pub wrote : 0 < w → length out' ≡ length out → Wrote (answer_text s) out w out'
  wrote some kept = at (ltb (length out) (length s + 128)) refl
    where
      written : List ℕ
      written = answer_text s ++ (10 ∷ [])

      at : (b : Bool) → ltb (length out) (length s + 128) ≡ b → Wrote (answer_text s) out w out'
      at true k = absurd (omega (arith, ap (λ (x : ℕ × List ℕ). x.0) (answer ∙ answered_none s out (ltb-true _ _ k))))
      at false k =
          let q = answer ∙ answered_front s out (ltb-false _ _ k) in
          let a : w ≡ length written = ap (λ (x : ℕ × List ℕ). x.0) q in
          let b : out' ≡ written ++ drop (length written) out = ap (λ (x : ℕ × List ℕ). x.1) q in
          record { front = rw (a, b, take-append_seam); behind = rw (a, b, drop-append_seam); fits = answered_fits s out answer kept }

  -- nothing was written: there is no room
  pub none : (0 < w → ⊥) → (out' ≡ out) × (length out < length s + 128)
  none e = at (ltb (length out) (length s + 128)) refl
    where
      at : (b : Bool) → ltb (length out) (length s + 128) ≡ b → (out' ≡ out) × (length out < length s + 128)
      at true k = let m : length out < length s + 128 = ltb-true _ _ k in (ap (λ (x : ℕ × List ℕ). x.1) (answer ∙ answered_none s out m), m)
      at false k =
          let a = ap (λ (x : ℕ × List ℕ). x.0) (answer ∙ answered_front s out (ltb-false _ _ k)) in
          absurd (e (omega (arith, a, length-append (answer_text s) (10 ∷ []))))
