-- Document 01, "Readings we keep by the bench", as document 02 amends it: the rows marked P, as one table with a case for each kind of call.
use Rattle.std.specs.Prelude.{◌≡◌, List, [], ◌∷◌, ℕ, ℤ, pos, neg_ℤ, None}
use Prim.Native.String.{String}
use Rattle.errors.specs.Refusals.{Outcome, gives, refuses, refusal}
use Rattle.counts.specs.Counts.{from_date_time, from_unix, over_epoch, added}
use Rattle.counts.specs.Constants.{earliest, latest}
use Rattle.reader.specs.Stamp.{read_text, year_limit}
use Rattle.printer.specs.Lent.{answer, line_after}
use Rattle.printer.specs.Display.{displayed}
use Rattle.texts.specs.Texts.{bytes}

pub data Reading : Type 0 where
  -- epoch, seconds, nanoseconds, and the text that is printed by default
  prints : ℤ → ℤ → ℕ → String → Reading
  -- epoch, year, month, day, hour, minute, second, nanosecond, and what they count
  counts : ℤ → ℤ → ℕ → ℕ → ℕ → ℕ → ℕ → ℕ → Outcome (ℤ × ℕ) → Reading
  -- epoch, a text, and what it reads as
  reads : ℤ → String → Outcome (ℤ × ℕ) → Reading
  -- seconds and nanoseconds, those of a duration, and their sum
  adds : ℤ → ℕ → ℕ → ℕ → Outcome (ℤ × ℕ) → Reading
  -- epoch, Unix seconds and nanoseconds, leap offset, and their timestamp
  converts : ℤ → ℤ → ℕ → ℤ → Outcome (ℤ × ℕ) → Reading
  -- old and new epoch, seconds and nanoseconds, and those over the new one
  moves : ℤ → ℤ → ℤ → ℕ → Outcome (ℤ × ℕ) → Reading

-- the entry says what the row says; printing does, for every line and place in it
abbrev pub Holds : Reading → Type 0
Holds (prints epoch secs nanos text) =
    (line : List ℕ) (at : ℕ) → displayed secs nanos epoch None line at ≡ (answer line at (bytes text), line_after line at (bytes text))
Holds (counts epoch year month day hour min sec nano said) = from_date_time epoch year month day hour min sec nano ≡ said
Holds (reads epoch text said) = read_text year_limit epoch (bytes text) ≡ said
Holds (adds secs nanos dsecs dnanos said) = added secs nanos dsecs dnanos ≡ said
Holds (converts epoch unix nanos leap said) = from_unix epoch unix nanos leap ≡ said
Holds (moves old new secs nanos said) = over_epoch old new secs nanos ≡ said

-- every row of a table holds
abbrev pub AllHold : List Reading → Type 0
AllHold [] = Unit {0}
AllHold (r ∷ rows) = Holds r × AllHold rows

abbrev pub gps : ℤ
gps = pos 315964819

abbrev pub readings : List Reading
readings =
    prints (pos 0) (pos 0) 0 "1970-01-01 00:00:00" ∷
    prints gps (pos 0) 0 "1980-01-06 00:00:19" ∷
    counts (pos 0) (pos 0) 1 1 0 0 0 0 (gives (neg_ℤ (pos 62167219200), 0)) ∷
    prints (pos 0) (neg_ℤ (pos 62167219201)) 0 "-0001-12-31 23:59:59" ∷
    counts (pos 0) (pos 2000) 2 29 0 0 0 0 (gives (pos 951782400, 0)) ∷
    counts (pos 0) (pos 1900) 2 29 0 0 0 0 (refuses (refusal 1 (pos 29 ∷ []))) ∷
    counts (pos 0) (pos 9999) 12 31 23 59 59 0 (gives (pos 253402300799, 0)) ∷
    prints (pos 0) (neg_ℤ (pos 1)) 500000000 "1969-12-31 23:59:59.5" ∷
    prints (pos 0) latest.0 0 "292277026596-12-04 15:30:07" ∷
    prints (pos 0) earliest.0 0 "-292277022657-01-27 08:29:52" ∷
    adds earliest.0 earliest.1 18446744073709551615 999999999 (gives latest) ∷
    adds earliest.0 1 18446744073709551615 999999999 (refuses (refusal 10 [])) ∷
    reads (pos 0) "2020-+5-01T00:00:00" (refuses (refusal 9 [])) ∷
    reads (pos 0) "++2020-01-01 00:00:00" (refuses (refusal 9 [])) ∷
    []
