-- For the code: the first line of some bytes, and the bytes that are left behind it.
use Rattle.std.specs.Prelude.{Bool, List, ◌++◌, ℕ, ◌+◌, ◌-◌, min, eqb, length, drop}
use Rattle.std.specs.Bool.{then_some}
use Rattle.words.specs.Bytes.{index_of}
use Rattle.lines.specs.Lines.{ready}
use Rattle.lines.specs.declared.First.{First}

-- no LF ends the first line of s
abbrev pub continues : List ℕ → Bool
continues s = eqb (index_of 10 s) (length s)

-- how many bytes of the first line decide its answer: one more than a request may have tells a longer one
abbrev pub decides : List ℕ → ℕ
decides s = min (index_of 10 s) 65536

-- how many bytes decide the answer, if the first line can be answered, how many are done with then (its LF too, if it is
-- there), and whether no LF ends it
abbrev pub first_of : Bool → List ℕ → First
first_of ended s =
    record {
      length = then_some (ready ended s) (decides s);
      used = min (index_of 10 s + 1) (length s);
      continues = continues s;
    }

-- how many bytes stand from a place on, and s with these at the front
unfoldable pub moved_to_front : List ℕ → ℕ → ℕ × List ℕ
moved_to_front s from = (length s - from, drop from s ++ drop (length s - from) s)
