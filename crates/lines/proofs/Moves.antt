-- Bytes moved to the front.
use Rattle.std.proofs.Common.{◌≡◌, ap, ℕ, ◌-◌, min, List, length, drop, length-drop, zero-add, arith}
use Rattle.std.specs.List.{copy_within}
use Rattle.std.proofs.lemmas.List.{drop_min}
use Rattle.std.proofs.lemmas.List.Edits.{paste_all}
use Rattle.lines.specs.FirstLine.{moved_to_front}

-- what `copy_within` leaves
pub moved : (s : List ℕ) (from : ℕ) {m : ℕ} {l : List ℕ} → m ≡ min from (length s) → length l ≡ length s → l ≡ copy_within s m (length s) 0
    → (length l - m, l) ≡ moved_to_front s from
unfolding moved_to_front
moved s from {m} {l} e k g =
    let n : length l - m ≡ length s - from = omega arith in
    let c : length s - m ≡ length s - from = omega arith in
    let d : drop m s ≡ drop from s = rw (e, drop_min from s) in
    let p = paste_all s 0 (drop m s) (length s - m) (rw length-drop) in
    rw (n, g, p, d, c, zero-add)

pub moved_count : (s : List ℕ) (from : ℕ) {k : ℕ} {l : List ℕ} → (k, l) ≡ moved_to_front s from → k ≡ length s - from
unfolding moved_to_front
moved_count s from e = ap (λ (x : ℕ × List ℕ). x.0) e
