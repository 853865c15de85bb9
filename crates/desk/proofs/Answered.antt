-- What an answer is at each length of the request and of the lent bytes.
use mathlib.Core.Path.{◌≡◌, ap, ◌∙◌}
use mathlib.Core.Bool.{Bool, true, false, cond}
use mathlib.Core.List.{List, [], ◌∷◌, ◌++◌}
use Prim.Native.Nat.{ℕ, ◌+◌, ◌-◌, ◌≤◌, ◌<◌}
use native.Mathlib.Omega.{arith}
use lib.Dec.{ltb}
use lib.ListN.{length, drop, length-append, length-drop}
use borrow.Author.Tests.{lt-ltb, le-ltb}
use Rattle.answers.specs.Answers.{malformed}
use Rattle.desk.specs.Answers.{answer_text, answered}

pub answered_front : (s out : List ℕ) → length s + 128 ≤ length out
    → answered s out ≡ (length (answer_text s ++ (10 ∷ [])), (answer_text s ++ (10 ∷ [])) ++ drop (length (answer_text s ++ (10 ∷ []))) out)
unfolding answered
answered_front s out h = rw (le-ltb (length out) (length s + 128) h)

pub answered_none : (s out : List ℕ) → length out < length s + 128 → answered s out ≡ (0, out)
unfolding answered
answered_none s out h = rw (lt-ltb (length out) (length s + 128) h)

pub answer_too_long : (s : List ℕ) → 65535 < length s → answer_text s ≡ malformed
unfolding answer_text
answer_too_long s h = rw (lt-ltb 65535 (length s) h)

-- what is written has room, since lent bytes stay as many as they are
pub answered_fits : (s out : List ℕ) {r : ℕ} {l : List ℕ} → (r, l) ≡ answered s out → length l ≡ length out → r ≤ length out
unfolding answered
answered_fits s out {r} {l} e h = go (ltb (length out) (length s + 128)) e
  where
    written : List ℕ
    written = answer_text s ++ (10 ∷ [])

    go : (b : Bool) → ◌≡◌ {A = ℕ × List ℕ} (r, l) (cond b (0, out) (length written, written ++ drop (length written) out)) → r ≤ length out
    go true q = let k : r ≡ 0 = ap (λ (x : ℕ × List ℕ). x.0) q in omega arith
    go false q =
        let k : r ≡ length written = ap (λ (x : ℕ × List ℕ). x.0) q in
        let m : length l ≡ length written + (length out - length written) =
        ap (λ (x : ℕ × List ℕ). length x.1) q ∙ length-append written _ ∙ rw length-drop in
        omega arith
