-- What a writer wrote in pieces.
use mathlib.Core.Path.{◌≡◌, refl, ◌∙◌}
use mathlib.Core.List.{List, [], ◌++◌}
use Prim.Native.Nat.{ℕ, ◌≤◌}
use native.Mathlib.Nat.{zero-add}
use native.Mathlib.Omega.{arith}
use lib.ListN.{length, drop}
use lib.Seq.{sets-eq}
use Rattle.texts.specs.declared.Writer.{Writer}
use Rattle.texts.specs.Wrote.{Wrote}
use Rattle.texts.proofs.Puts.{put_on, put_none}

pub wrote_on : {a b c : Writer} {text more : List ℕ} → Wrote a text b → Wrote b more c → Wrote a (text ++ more) c
wrote_on v w = record { put = put_on v.put w.put; size = w.size ∙ v.size; same = w.same ∙ v.same }

pub wrote_none : (a : Writer) → Wrote a [] a
wrote_none a = record { put = put_none _ _; size = refl; same = refl }

-- a text at the front of a line that was lent for it
pub wrote_front : {a b : Writer} {s l text : List ℕ} → Wrote a text b → a.line.now ≡ s → a.at ≡ 0 → length text ≤ length s → l ≡ b.line.now → ◌≡◌ {A = ℕ × List ℕ} (b.at, l) (length text, text ++ drop (length text) s)
wrote_front {a} {b} {s} {l} {text} w line at h last =
    let p = rw (line, at) at w.put in
    let e : b.at ≡ length text = omega (arith, p.place) in
    let f : l ≡ text ++ drop (length text) s = last ∙ p.line ∙ sets-eq text s 0 (rw zero-add h) ∙ rw zero-add in
    λ i. (e i, f i)
