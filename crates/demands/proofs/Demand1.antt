-- Demand 1: any bytes, numbers and epoch get an answer or a refusal from document 01's table, in its order of checks, and a
-- refusal changes no lent byte. An entry promises `said answer ≡ meaning input`, of which the meanings are stated about here;
-- what each refusal is given for stands in GivenWhen, and the order within a text in TextOrder.
use mathlib.Core.Path.{◌≡◌}
use mathlib.Core.List.{List, [], ◌∷◌}
use Prim.Native.Nat.{ℕ, ◌+◌, ◌<◌, ◌≤◌}
use lib.IntN.{ℤ, pos}
use lib.ListN.{length}
use Rattle.std.specs.Prelude.{Option}
use Rattle.errors.specs.Refusals.{Refusal, refuses, refuses_in_range_error, refusal, of_parse}
use Rattle.errors.specs.declared.PrintError.{PrintError}
use Rattle.errors.specs.declared.ParseDateTimeError.{ParseDateTimeError}
use Rattle.errors.specs.declared.CountError.{CountError}
use Rattle.errors.specs.declared.DateTimeError.{DateTimeError}
use Rattle.seconds.specs.declared.UnixSeconds.{UnixSeconds}
use Rattle.durations.specs.declared.Duration.{Duration}
use Rattle.std.specs.declared.cmp.Ordering.{Ordering}
use Rattle.counts.specs.Said.{said_time, said_secs, said_date_time, said_unix, said_duration, said_ordering}
use Rattle.counts.specs.Counts.{new_time, from_date_time, from_unix, to_unix, over_epoch, added, taken, since, compared}
use Rattle.counts.specs.declared.TaiTime.{TaiTime}
use Rattle.dates.specs.declared.DateTime.{DateTime}
use Rattle.std.specs.Prelude.{Result, Ok, Err}
use Rattle.stages.specs.Text.{parsed}
use Rattle.reader.specs.Stamp.{said_read, read_text}
use Rattle.printer.specs.Lent.{said}
use Rattle.printer.specs.Display.{time_text, displayed}
use Rattle.printer.proofs.Lent.{said_one}
use Rattle.demands.specs.Refused.{OnlyRefuses}
use Rattle.demands.proofs.Answers.{time_one, date_time_answer_one, secs_one, unix_one, duration_one, ordering_one, read_one}
use Rattle.demands.proofs.EntriesRefuse.{new_only, from_date_only, from_unix_only, to_unix_only, over_epoch_only, added_only, taken_only, since_only, compared_only, read_only, displayed_only}
use Rattle.demands.proofs.TextFirst.{text_refused, read_whole}
use Rattle.demands.proofs.Lent.{refusal_leaves, bad_nanos, start_outside, no_room}

-- ---- No two answers of an entry say the same, so no two meet its promise.
-- of new, try_from_unix_timestamp, to_tai_time, checked_add and checked_sub
pub one_time_answer : (a b : Result TaiTime CountError) → said_time a ≡ said_time b → a ≡ b
one_time_answer = time_one

-- of try_from_date_time
pub one_date_time_answer : (a b : Result TaiTime DateTimeError) → said_date_time a ≡ said_date_time b → a ≡ b
one_date_time_answer = date_time_answer_one

-- of date_time_secs, which the reader shares with it
pub one_secs_answer : (a b : Result ℤ DateTimeError) → said_secs a ≡ said_secs b → a ≡ b
one_secs_answer = secs_one

-- of as_unix_secs
pub one_unix_answer : (a b : Result UnixSeconds CountError) → said_unix a ≡ said_unix b → a ≡ b
one_unix_answer = unix_one

-- of checked_duration_since
pub one_duration_answer : (a b : Result Duration CountError) → said_duration a ≡ said_duration b → a ≡ b
one_duration_answer = duration_one

-- of cmp
pub one_ordering_answer : (a b : Result Ordering CountError) → said_ordering a ≡ said_ordering b → a ≡ b
one_ordering_answer = ordering_one

-- of from_str
pub one_read_answer : (a b : Result TaiTime ParseDateTimeError) → said_read a ≡ said_read b → a ≡ b
one_read_answer = read_one

-- of display
pub one_printed_answer : (a b : Result ℕ PrintError) → said a ≡ said b → a ≡ b
one_printed_answer = said_one

-- ---- A refusal has one of the numbers that document 01 gives to its entry.
-- new: 11
pub new_refuses : (secs : ℤ) (nanos : ℕ) → OnlyRefuses (11 ∷ []) [] (new_time secs nanos)
new_refuses = new_only

-- a date: 0 to 6
pub date_refuses : (epoch year : ℤ) (month day hour min sec nano : ℕ) → OnlyRefuses (0 ∷ 1 ∷ 2 ∷ 3 ∷ 4 ∷ 5 ∷ 6 ∷ []) [] (from_date_time epoch year month day hour min sec nano)
date_refuses = from_date_only

-- Unix to timestamp: 10
pub from_unix_refuses : (epoch unix : ℤ) (nanos : ℕ) (leap : ℤ) → OnlyRefuses (10 ∷ []) [] (from_unix epoch unix nanos leap)
from_unix_refuses = from_unix_only

-- timestamp to Unix: 11 or 10
pub to_unix_refuses : (epoch secs : ℤ) (nanos : ℕ) (leap : ℤ) → OnlyRefuses (11 ∷ 10 ∷ []) [] (to_unix epoch secs nanos leap)
to_unix_refuses = to_unix_only

-- change of epoch: 11 or 10
pub over_epoch_refuses : (old new secs : ℤ) (nanos : ℕ) → OnlyRefuses (11 ∷ 10 ∷ []) [] (over_epoch old new secs nanos)
over_epoch_refuses = over_epoch_only

-- adding, subtracting, differencing: 11 or 10
pub added_refuses : (secs : ℤ) (nanos dsecs dnanos : ℕ) → OnlyRefuses (11 ∷ 10 ∷ []) [] (added secs nanos dsecs dnanos)
added_refuses = added_only

pub taken_refuses : (secs : ℤ) (nanos dsecs dnanos : ℕ) → OnlyRefuses (11 ∷ 10 ∷ []) [] (taken secs nanos dsecs dnanos)
taken_refuses = taken_only

pub since_refuses : (secs : ℤ) (nanos : ℕ) (secs' : ℤ) (nanos' : ℕ) → OnlyRefuses (11 ∷ 10 ∷ []) [] (since secs nanos secs' nanos')
since_refuses = since_only

-- comparing: 11
pub compared_refuses : (secs : ℤ) (nanos : ℕ) (secs' : ℤ) (nanos' : ℕ) → OnlyRefuses (11 ∷ []) [] (compared secs nanos secs' nanos')
compared_refuses = compared_only

-- reading: 7, 8 or 9, or 0 to 6 inside a RangeError
pub read_refuses : (limit : ℕ) (epoch : ℤ) (text : List ℕ) → OnlyRefuses (7 ∷ 8 ∷ 9 ∷ []) (0 ∷ 1 ∷ 2 ∷ 3 ∷ 4 ∷ 5 ∷ 6 ∷ []) (read_text limit epoch text)
read_refuses = read_only

module _ (secs : ℤ) (nanos : ℕ) (epoch : ℤ) (precision : Option ℕ) (line : List ℕ) (at : ℕ) where
  -- printing: 11, 12 or 13
  pub displayed_refuses : OnlyRefuses (11 ∷ 12 ∷ 13 ∷ []) [] (displayed secs nanos epoch precision line at).0
  displayed_refuses = displayed_only secs nanos epoch precision line at

  -- A refusal of printing leaves every byte of the line.
  pub refusal_leaves_the_line : {r : Refusal} → (displayed secs nanos epoch precision line at).0 ≡ refuses r → (displayed secs nanos epoch precision line at).1 ≡ line
  refusal_leaves_the_line = refusal_leaves secs nanos epoch precision line at

  -- ---- The order of checks: 11 goes before 12 and 13,
  pub bad_nanos_before_the_line : 1000000000 ≤ nanos → displayed secs nanos epoch precision line at ≡ (refuses (refusal 11 []), line)
  bad_nanos_before_the_line = bad_nanos secs nanos epoch precision line at

  -- 12 before 13,
  pub start_outside_before_no_room : nanos < 1000000000 → length line < at → displayed secs nanos epoch precision line at ≡ (refuses (refusal 12 []), line)
  start_outside_before_no_room = start_outside secs nanos epoch precision line at

  -- and 13 comes last, where the text is longer than what is left, and tells how long it is.
  pub no_room_last : nanos < 1000000000 → at ≤ length line → length line < at + length (time_text secs nanos epoch precision)
      → displayed secs nanos epoch precision line at ≡ (refuses (refusal 13 (pos (length (time_text secs nanos epoch precision)) ∷ [])), line)
  no_room_last = no_room secs nanos epoch precision line at

module _ (limit : ℕ) (epoch : ℤ) (text : List ℕ) where
  -- A text error beats a date error: it is the answer whatever the epoch and the fields,
  pub text_error_first : {e : ParseDateTimeError} → parsed limit text ≡ Err e → read_text limit epoch text ≡ of_parse e
  text_error_first = text_refused limit epoch text

  -- and a date error says that the whole text was read, and is the one that the fields give.
  pub date_error_last : {r : Refusal} → read_text limit epoch text ≡ refuses_in_range_error r
      → (f : DateTime) × (parsed limit text ≡ Ok f) × (from_date_time epoch f.year f.month f.day f.hour f.min f.sec f.nano ≡ refuses r)
  date_error_last = read_whole limit epoch text
