-- A text printed behind three bytes of a line, where there is always room for it.
use mathlib.Core.Path.{◌≡◌, refl, sym, ap, ◌∙◌}
use mathlib.Core.Bool.{Bool, true, false, cond}
use mathlib.Core.List.{List, []}
use Prim.Native.Nat.{ℕ, ◌+◌, ◌<◌, ◌≤◌}
use native.Mathlib.Omega.{arith}
use lib.Dec.{ltb}
use lib.IntN.{ℤ, ◌+ℤ◌}
use lib.ListN.{length, length-append}
use lib.Seq.{sets, sets-eq}
use mir.Syntax.{w64}
use mir.Val.{SFits}
use borrow.Author.Tests.{ltb-true}
use Rattle.digits.proofs.Stores.{sets_append, sets_sets}
use Rattle.std.specs.Prelude.{Option}
use Rattle.errors.specs.Refusals.{Refusal, refusal, Outcome, gives, refuses}
use Rattle.moments.specs.Moments.{moment_at}
use Rattle.moments.proofs.Moments.{year_within}
use Rattle.counts.specs.Counts.{good_nanos}
use Rattle.printer.specs.Lent.{answer, line_after}
use Rattle.printer.specs.Display.{instant, time_text, displayed}
use Rattle.printer.proofs.Lent.{room}
use Rattle.printer.proofs.Text.{text_bound}
use Rattle.texts.specs.Texts.{bytes, natural}
use Rattle.answers.specs.Answers.{line}

module _ (secs : ℤ) (nanos : ℕ) (epoch : ℤ) (p : Option ℕ) (s : List ℕ) (at : ℕ) (large : at + 64 ≤ length s) (f : SFits w64 secs) (g : SFits w64 epoch) where
  text : List ℕ
  text = time_text secs nanos epoch p

  short : nanos < 1000000000 → length text ≤ 38
  unfolding time_text text
  short h = text_bound (instant (moment_at (secs +ℤ epoch)) nanos) p (record { year = year_within secs epoch f g; nanos = h })

  -- what the answer says
  abbrev shown : Bool → List ℕ
  shown b = line (λ text. text) (cond b (gives text) (refuses (refusal 11 [])))

  -- what printing answered, and what the line is then
  module _ {o : Outcome ℕ} {l : List ℕ} where
    -- a text is there: `ok ` in front of it makes the answer
    there : (b : Bool) → ltb nanos 1000000000 ≡ b → ◌≡◌ {A = Outcome ℕ × List ℕ} (o, l) (cond b (answer s (at + 3) text, line_after s (at + 3) text) (refuses (refusal 11 []), s))
        → {n : ℕ} → o ≡ gives n → (n ≤ 38) × (sets l at (bytes "ok ") ≡ sets s at (shown b)) × (3 + n ≡ length (shown b))
    there true h q {n} e =
        let k = short (ltb-true nanos 1000000000 h) in
        let w = room s (at + 3) text (omega arith) (omega arith) in
        let i : gives n ≡ gives (length text) = sym e ∙ ap (λ (x : Outcome ℕ × List ℕ). x.0) q ∙ sym w.0 in
        let m : n ≡ length text = cc in
        let printed : l ≡ sets s (at + 3) text = ap (λ (x : Outcome ℕ × List ℕ). x.1) q ∙ sym w.1 ∙ sym (sets-eq text s (at + 3) (omega arith)) in
        (omega arith, rw printed (sets_sets s at (bytes "ok ") (at + 3) text (omega arith) ∙ sym (sets_append s at (bytes "ok ") text)), omega (arith, length-append (bytes "ok ") text))
    there false h q {n} e =
        let k : gives n ≡ refuses (refusal 11 []) = sym e ∙ ap (λ (x : Outcome ℕ × List ℕ). x.0) q in
        let z : ◌≡◌ {A = ℕ} 0 1 = cc in
        absurd (omega arith)

    -- none is: the line is as it was
    none : (b : Bool) → ltb nanos 1000000000 ≡ b → ◌≡◌ {A = Outcome ℕ × List ℕ} (o, l) (cond b (answer s (at + 3) text, line_after s (at + 3) text) (refuses (refusal 11 []), s))
        → {r : Refusal} → o ≡ refuses r → (l ≡ s) × (line natural o ≡ shown b)
    none true h q {r} e =
        let k = short (ltb-true nanos 1000000000 h) in
        let i : refuses r ≡ gives (length text) = sym e ∙ ap (λ (x : Outcome ℕ × List ℕ). x.0) q ∙ sym (room s (at + 3) text (omega arith) (omega arith)).0 in
        let z : ◌≡◌ {A = ℕ} 0 1 = cc in
        absurd (omega arith)
    none false h q e = (ap (λ (x : Outcome ℕ × List ℕ). x.1) q, rw (ap (λ (x : Outcome ℕ × List ℕ). x.0) q))

    module _ (q : ◌≡◌ {A = Outcome ℕ × List ℕ} (o, l) (displayed secs nanos epoch p s (at + 3))) where
      pub printed : {n : ℕ} → o ≡ gives n
          → let a = line (λ text. text) (good_nanos nanos (gives (time_text secs nanos epoch p))) in (n ≤ 38) × (sets l at (bytes "ok ") ≡ sets s at a) × (3 + n ≡ length a)
      unfolding displayed text
      printed e = there (ltb nanos 1000000000) refl q e

      pub refused : {r : Refusal} → o ≡ refuses r → (l ≡ s) × (line natural o ≡ line (λ text. text) (good_nanos nanos (gives (time_text secs nanos epoch p))))
      unfolding displayed text
      refused e = none (ltb nanos 1000000000) refl q e
