-- The turns over the bytes of an input: nothing done, a line passed over, a line answered, and one turn after another.
use mathlib.Core.Path.{◌≡◌, refl, ◌∙◌}
use mathlib.Core.Bool.{Bool, true, false, cond, or-true}
use mathlib.Core.List.{List, [], ◌∷◌, ◌++◌, append-nil, append_assoc}
use mathlib.Core.Logic.{◌⊎◌, inl, inr}
use Prim.Native.Nat.{ℕ, ◌+◌, ◌-◌, ◌<◌, ◌≤◌, min}
use native.Mathlib.Omega.{arith}
use lib.Dec.{ltb}
use lib.ListN.{length, take, drop, length-take, length-drop, length-append, drop_of_length-le}
use lib.Seq.{length-take-le, take_all, take-add, take_at, drop_at, drop-drop}
use borrow.Rule.Slice.PartMut.{mid_of, put_mid, same_len_mid}
use borrow.Author.Tests.{le-ltb, ltb-true, ltb-false, eqb-true}
use Rattle.words.specs.Bytes.{index_of}
use Rattle.lines.specs.Lines.{lines, input, ready, Done, Turn}
use Rattle.lines.specs.FirstLine.{continues, decides}
use Rattle.lines.specs.declared.Answered.{Answered}
use Rattle.lines.proofs.Cuts.{first, used, first_line, first_long, ready_some, index_le, used_some, pass, answers_first}

module _ (answer : List ℕ → List ℕ) (s : List ℕ) (within ended : Bool) (out : List ℕ) where
  pub done_nothing : Done answer s within ended out out (record { used = 0; written = 0; within = within })
  done_nothing = record { same = λ later. refl; used_fits = omega arith; written_fits = omega arith; behind = refl }

  -- nothing is done where a line that can be answered has no room
  pub turn_left : (ready ended s ≡ true → min (index_of 10 s) 65536 + 128 ≤ length out → ⊥)
      → Turn answer s within ended out out (record { used = 0; written = 0; within = within })
  turn_left h = record { done = done_nothing; progress = λ e k. absurd (h e k) }

  -- or where no line can be answered
  pub turn_waiting : ready ended s ≡ false → Turn answer s within ended out out (record { used = 0; written = 0; within = within })
  turn_waiting h = turn_left (λ e _. let z : ◌≡◌ {A = ℕ} 0 1 = cc in omega arith)

module _ (answer : List ℕ → List ℕ) (s : List ℕ) (ended : Bool) (out : List ℕ) where
  pub turn_passed : Turn answer s true ended out out (record { used = used s; written = 0; within = continues s })
  turn_passed =
      record {
        done = record { same = λ later. pass answer (cond ended [] later) s; used_fits = (used_some s).0; written_fits = omega arith; behind = refl };
        progress = λ e k. (used_some s).1 (ready_some ended s e);
      }

-- what an answer wrote
pub record Wrote (text out : List ℕ) (w : ℕ) (out' : List ℕ) : Type 0 where
  pub front : take w out' ≡ text ++ (10 ∷ [])
  pub behind : drop w out' ≡ drop w out
  pub fits : w ≤ length out

-- lines that are too long for a request have one answer
module _ (answer : List ℕ → List ℕ) (too_long : (s t : List ℕ) → 65535 < length s → 65535 < length t → answer s ≡ answer t) where
  -- so the bytes that decide the answer to the first line are enough
  line_text : (s later : List ℕ) (ended : Bool) → ready ended s ≡ true
      → answer (first (lines (input ended s later))) ≡ answer (take (decides s) s)
  unfolding ready
  line_text s later ended e = at (ltb 65535 (index_of 10 s)) refl
    where
      t : List ℕ
      t = cond ended [] later

      known : (b c : Bool) → ended ≡ b → continues s ≡ c → index_of 10 s ≤ 65535 → (continues s ≡ false) ⊎ (t ≡ [])
      known true c d k m = inr (rw d)
      known false false d k m = inl k
      known false true d k m =
          let q : index_of 10 s ≡ length s = eqb-true _ _ k in
          let l = rw (d, le-ltb (index_of 10 s) (length s) (omega arith), le-ltb 65535 (length s) (omega arith)) at e in
          let z : ◌≡◌ {A = ℕ} 0 1 = cc in absurd (omega arith)

      at : (b : Bool) → ltb 65535 (index_of 10 s) ≡ b → answer (first (lines (s ++ t))) ≡ answer (take (min (index_of 10 s) 65536) s)
      at true k =
          let m : 65535 < index_of 10 s = ltb-true _ _ k in
          too_long _ _ (omega (arith, first_long t s)) (rw length-take (omega (arith, index_le s)))
      at false k =
          let m : index_of 10 s ≤ 65535 = ltb-false _ _ k in
          let q : min (index_of 10 s) 65536 ≡ index_of 10 s = omega arith in
          rw (q, first_line t s (known ended (continues s) refl refl m))

  pub turn_answered : (s : List ℕ) (ended : Bool) {out out' : List ℕ} {w : ℕ} → ready ended s ≡ true
      → Wrote (answer (take (decides s) s)) out w out'
      → Turn answer s false ended out out' (record { used = used s; written = w; within = continues s })
  turn_answered s ended e wrote =
      record {
        done =
            record {
              same =
                  λ later.
                  answers_first answer (input ended s later) (rw length-append (omega (arith, ready_some ended s e)))
                  ∙ rw (line_text s later ended e, pass answer (cond ended [] later) s, wrote.front, append_assoc);
              used_fits = (used_some s).0;
              written_fits = wrote.fits;
              behind = wrote.behind;
            };
        progress = λ _ _. (used_some s).1 (ready_some ended s e);
      }

-- the part of a list from a place on, and the list with another part there
part_from : (a : ℕ) (l : List ℕ) → mid_of a (length l - a) l ≡ drop a l
part_from a l = take_all (length l - a) (drop a l) (rw length-drop (omega arith))

put_from : (a : ℕ) (l m : List ℕ) → put_mid a (length l - a) l m ≡ take a l ++ m
put_from a l m = rw (drop_of_length-le (drop a l) {i = length l - a} (rw length-drop (omega arith)), append-nil)

-- a turn over what is left, behind what is done
module _ {answer : List ℕ → List ℕ} {s out₀ out ys : List ℕ} {within ended goes : Bool} {u w : ℕ} {q : Answered}
    (first : Done answer s within ended out₀ out (record { used = u; written = w; within = goes })) (as_long : length out ≡ length out₀)
    (next : Turn answer (mid_of u (length s - u) s) goes ended (mid_of w (length out - w) out) ys q) where
  pub done_again : Done answer s within ended out₀ (put_mid w (length out - w) out ys) (record { used = u + q.used; written = w + q.written; within = q.within })
  done_again =
      let turn = rw (part_from u s, part_from w out) at next in
      let front : length (take w out) ≡ w = length-take-le w out (omega (arith, first.written_fits)) in
      rw (put_from w out ys)
      (record {
        same =
            λ later.
            first.same later
            ∙ rw (turn.done.same later, take-add, take_at (take w out) ys w front, drop_at (take w out) ys w front, drop-drop, append_assoc);
        used_fits = omega (arith, turn.done.used_fits, length-drop u s, first.used_fits);
        written_fits = omega (arith, turn.done.written_fits, length-drop w out, first.written_fits);
        behind = rw (← drop-drop, drop_at (take w out) ys w front, turn.done.behind, first.behind, drop-drop);
      })

  pub long_again : length ys ≡ length (mid_of w (length out - w) out) → length (put_mid w (length out - w) out ys) ≡ length out₀
  long_again h = same_len_mid w (length out - w) out ys h ∙ as_long

  pub turn_again : (u ≡ 0 → w ≡ 0)
      → Turn answer s within ended out₀ (put_mid w (length out - w) out ys) (record { used = u + q.used; written = w + q.written; within = q.within })
  turn_again start = record { done = done_again; progress = at (ltb 0 u) refl }
    where
      at : (b : Bool) → ltb 0 u ≡ b → ready ended s ≡ true → min (index_of 10 s) 65536 + 128 ≤ length out₀ → 0 < u + q.used
      at true k e room = let some : 0 < u = ltb-true _ _ k in omega arith
      at false k e room =
          let none : u ≡ 0 = omega (arith, ltb-false 0 u k) in
          let turn = rw (part_from u s, part_from w out, none, start none) at next in
          omega (arith, turn.progress e (omega arith))

-- bytes of which none was used, though an answer had room, are no more than a request may have
pub left_short : {answer : List ℕ → List ℕ} {s out out' : List ℕ} {within ended : Bool} {r : Answered} → Turn answer s within ended out out' r
    → r.used ≡ 0 → 65664 ≤ length out → length s ≤ 65535
unfolding ready
left_short {s = s} {ended = ended} turn none room = at (ltb 65535 (length s)) refl
  where
    at : (b : Bool) → ltb 65535 (length s) ≡ b → length s ≤ 65535
    at true k = absurd (omega (arith, turn.progress (rw (k, or-true)) (omega arith)))
    at false k = ltb-false _ _ k
