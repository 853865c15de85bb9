-- Document 02, ask 11: want of room tells how long the text is. That many bytes from the same place are enough, and one fewer
-- are not, in every line.
use mathlib.Core.Path.{◌≡◌, refl, ◌∙◌}
use mathlib.Core.List.{List, [], ◌∷◌, ◌++◌, append-nil}
use Prim.Native.Nat.{ℕ, ◌+◌, ◌<◌, ◌≤◌}
use native.Mathlib.Omega.{arith}
use lib.IntN.{ℤ, pos}
use lib.ListN.{length, take}
use lib.Seq.{drop-length}
use Rattle.std.specs.Prelude.{Option}
use Rattle.errors.specs.Refusals.{Refusal, gives, refuses, refusal}
use Rattle.printer.specs.Display.{time_text, displayed}
use Rattle.demands.specs.GivenWhen.{PrintRefused}
use Rattle.demands.specs.GivenWhen as When
use Rattle.demands.proofs.Lent.{no_room, printed}
use Rattle.demands.proofs.GivenWhen.{print_refused_exactly}

module _ (secs : ℤ) (nanos : ℕ) (epoch : ℤ) (precision : Option ℕ) (line : List ℕ) (at : ℕ) where
  abbrev text : List ℕ
  text = time_text secs nanos epoch precision

  -- what a refusal of number 13 was given for, and with
  record Narrow (values : List ℤ) : Type 0 where
    good : nanos < 1000000000
    within : at ≤ length line
    longer : length line < at + length text
    told : values ≡ pos (length text) ∷ []

  narrow : (q : Refusal) → PrintRefused secs nanos epoch precision line at q → q.number ≡ 13 → Narrow q.values
  narrow q (When.bad_nanos h) e = absurd (omega (arith, e))
  narrow q (When.start_outside h k) e = absurd (omega (arith, e))
  narrow q (When.no_room h k l) e = record { good = h; within = k; longer = l; told = refl }

  -- 13 has one value, the length of the text.
  pub wanted_is_told : (q : Refusal) → (displayed secs nanos epoch precision line at).0 ≡ refuses q → q.number ≡ 13 → q.values ≡ pos (length text) ∷ []
  wanted_is_told q e k = (narrow q ((print_refused_exactly secs nanos epoch precision line at q).0 e) k).told

  -- Printing was refused with 13 and the number n:
  module _ (n : ℕ) (refused : (displayed secs nanos epoch precision line at).0 ≡ refuses (refusal 13 (pos n ∷ []))) where
    why : Narrow (pos n ∷ [])
    why = narrow (refusal 13 (pos n ∷ [])) ((print_refused_exactly secs nanos epoch precision line at (refusal 13 (pos n ∷ []))).0 refused) refl

    is_length : length text ≡ n
    is_length = let e = why.told in cc

    -- n is more than what was left from the place on;
    pub wanted_is_more : (at ≤ length line) × (length line < at + n)
    wanted_is_more = (why.within, omega (arith, why.within, why.longer, is_length))

    -- into any line that has exactly n bytes from there, printing is accepted and writes them all, the text's n bytes;
    pub wanted_is_enough : (other : List ℕ) → length other ≡ at + n → (displayed secs nanos epoch precision other at ≡ (gives n, take at other ++ text)) × (length text ≡ n)
    wanted_is_enough other e = (printed secs nanos epoch precision other at why.good (omega (arith, is_length, why.within, why.longer)) ∙ rw (is_length, ← e, drop-length other, append-nil), is_length)

    -- and into any line with one byte fewer it is refused with 13 and the same n, and leaves the line.
    pub one_fewer_is_refused : (other : List ℕ) → length other + 1 ≡ at + n → displayed secs nanos epoch precision other at ≡ (refuses (refusal 13 (pos n ∷ [])), other)
    one_fewer_is_refused other e = no_room secs nanos epoch precision other at why.good (omega (arith, is_length, why.within, why.longer)) (omega (arith, is_length, why.within, why.longer)) ∙ rw is_length
