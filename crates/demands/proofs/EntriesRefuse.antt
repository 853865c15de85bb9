-- Which numbers each entry refuses with.
use mathlib.Core.Bool.{Bool, true, false, cond, ◌&&◌}
use mathlib.Core.List.{List, [], ◌∷◌}
use Prim.Native.Nat.{ℕ, ◌-◌, ◌/◌}
use lib.Dec.{ltb, leb}
use lib.IntN.{ℤ, pos, ◌+ℤ◌, ◌-ℤ◌}
use lib.ListN.{length}
use Rattle.std.specs.Prelude.{Option}
use Rattle.integers.specs.Integers.{is_i64, floor_div}
use Rattle.errors.specs.Refusals.{refusal, Outcome, gives, refuses, refuses_in_range_error}
use Rattle.calendar.specs.Walk.{month_length}
use Rattle.moments.specs.Moments.{seconds_of}
use Rattle.counts.specs.Counts.{with_nanos, new_time, date_time_secs, from_date_time, from_unix, to_unix, over_epoch, time_at, added, taken, since, compared}
use Rattle.stages.specs.Text.{parsed}
use Rattle.reader.specs.Stamp.{inside_range_error, stamped, read_text}
use Rattle.std.specs.Prelude.{Ok, Err}
use Rattle.stages.specs.Text.{Parsed}
use Rattle.printer.specs.Lent.{by_room, answer}
use Rattle.printer.specs.Display.{time_text, displayed}
use Rattle.demands.specs.Values.{moment}
use Rattle.demands.specs.Refused.{OnlyRefuses, a_value, a_refusal, within_range_error}
use Rattle.demands.proofs.RefusalsOf.{dates, sums, texts, at_check, good, fit, duration_only, parse_only}

pub new_only : (secs : ℤ) (nanos : ℕ) → OnlyRefuses (11 ∷ []) [] (new_time secs nanos)
unfolding new_time
new_only secs nanos = good nanos _ a_value

-- ---- dates
date_only : (epoch year : ℤ) (month day hour min sec nano : ℕ) → OnlyRefuses dates [] (date_time_secs epoch year month day hour min sec nano)
unfolding date_time_secs
date_only epoch year month day hour min sec nano =
    at_check (leb 1 month && leb month 12) (refusal 0 (pos month ∷ [])) _ tt
    (at_check (leb 1 day && leb day (month_length year month)) (refusal 1 (pos day ∷ [])) _ tt
    (at_check (leb hour 23) (refusal 2 (pos hour ∷ [])) _ tt
    (at_check (leb min 59) (refusal 3 (pos min ∷ [])) _ tt
    (at_check (leb sec 59) (refusal 4 (pos sec ∷ [])) _ tt
    (at_check (ltb nano 1000000000) (refusal 5 (pos nano ∷ [])) _ tt
    (at_check (is_i64 (seconds_of (moment year month day hour min sec) -ℤ epoch)) (refusal 6 []) _ tt a_value))))))

with_nanos_only : (own inner : List ℕ) (nanos : ℕ) (o : Outcome ℤ) → OnlyRefuses own inner o → OnlyRefuses own inner (with_nanos nanos o)
with_nanos_only own inner nanos (gives x) h = a_value
with_nanos_only own inner nanos (refuses r) (a_refusal t) = a_refusal t
with_nanos_only own inner nanos (refuses_in_range_error r) (within_range_error t) = within_range_error t

pub from_date_only : (epoch year : ℤ) (month day hour min sec nano : ℕ) → OnlyRefuses dates [] (from_date_time epoch year month day hour min sec nano)
unfolding from_date_time
from_date_only epoch year month day hour min sec nano =
    with_nanos_only dates [] nano (date_time_secs epoch year month day hour min sec nano) (date_only epoch year month day hour min sec nano)

-- ---- counts
pub from_unix_only : (epoch unix : ℤ) (nanos : ℕ) (leap : ℤ) → OnlyRefuses (10 ∷ []) [] (from_unix epoch unix nanos leap)
unfolding from_unix
from_unix_only epoch unix nanos leap = at_check (is_i64 (unix +ℤ pos (nanos / 1000000000) +ℤ leap -ℤ epoch)) (refusal 10 []) _ tt a_value

pub to_unix_only : (epoch secs : ℤ) (nanos : ℕ) (leap : ℤ) → OnlyRefuses sums [] (to_unix epoch secs nanos leap)
unfolding to_unix
to_unix_only epoch secs nanos leap = good nanos _ (fit (secs -ℤ leap +ℤ epoch) _ a_value)

pub over_epoch_only : (old new secs : ℤ) (nanos : ℕ) → OnlyRefuses sums [] (over_epoch old new secs nanos)
unfolding over_epoch
over_epoch_only old new secs nanos = good nanos _ (fit (old -ℤ new +ℤ secs) _ a_value)

time_only : (z : ℤ) → OnlyRefuses sums [] (time_at z)
unfolding time_at
time_only z = fit (floor_div 1000000000 z) _ a_value

pub added_only : (secs : ℤ) (nanos dsecs dnanos : ℕ) → OnlyRefuses sums [] (added secs nanos dsecs dnanos)
unfolding added
added_only secs nanos dsecs dnanos = good nanos _ (good dnanos _ (time_only _))

pub taken_only : (secs : ℤ) (nanos dsecs dnanos : ℕ) → OnlyRefuses sums [] (taken secs nanos dsecs dnanos)
unfolding taken
taken_only secs nanos dsecs dnanos = good nanos _ (good dnanos _ (time_only _))

pub since_only : (secs : ℤ) (nanos : ℕ) (secs' : ℤ) (nanos' : ℕ) → OnlyRefuses sums [] (since secs nanos secs' nanos')
unfolding since
since_only secs nanos secs' nanos' = good nanos _ (good nanos' _ (duration_only _))

pub compared_only : (secs : ℤ) (nanos : ℕ) (secs' : ℤ) (nanos' : ℕ) → OnlyRefuses (11 ∷ []) [] (compared secs nanos secs' nanos')
unfolding compared
compared_only secs nanos secs' nanos' = good nanos _ (good nanos' _ a_value)

-- ---- texts
in_range_error_only : {A : Type 0} (own : List ℕ) (o : Outcome A) → OnlyRefuses dates [] o → OnlyRefuses own dates (inside_range_error o)
in_range_error_only own (gives x) h = a_value
in_range_error_only own (refuses r) (a_refusal t) = within_range_error t
in_range_error_only own (refuses_in_range_error r) (within_range_error t) = absurd t

stamped_only : (epoch : ℤ) (p : Parsed) → OnlyRefuses texts dates (stamped epoch p)
stamped_only epoch (Ok f) = in_range_error_only texts _ (from_date_only epoch f.year f.month f.day f.hour f.min f.sec f.nano)
stamped_only epoch (Err e) = parse_only e

pub read_only : (limit : ℕ) (epoch : ℤ) (text : List ℕ) → OnlyRefuses texts dates (read_text limit epoch text)
unfolding read_text
read_only limit epoch text = stamped_only epoch (parsed limit text)

answer_only : (line : List ℕ) (at : ℕ) (text : List ℕ) → OnlyRefuses (11 ∷ 12 ∷ 13 ∷ []) [] (answer line at text)
unfolding by_room
answer_only line at text = go (ltb (length line) at) (ltb (length line - at) (length text))
  where
    go : (a b : Bool) → OnlyRefuses (11 ∷ 12 ∷ 13 ∷ []) [] (cond a (refuses (refusal 12 [])) (cond b (refuses (refusal 13 (pos (length text) ∷ []))) (gives (length text))))
    go true b = a_refusal tt
    go false true = a_refusal tt
    go false false = a_value

pub displayed_only : (secs : ℤ) (nanos : ℕ) (epoch : ℤ) (precision : Option ℕ) (line : List ℕ) (at : ℕ) → OnlyRefuses (11 ∷ 12 ∷ 13 ∷ []) [] (displayed secs nanos epoch precision line at).0
unfolding displayed
displayed_only secs nanos epoch precision line at = go (ltb nanos 1000000000)
  where
    text : List ℕ
    text = time_text secs nanos epoch precision

    go : (b : Bool) → OnlyRefuses (11 ∷ 12 ∷ 13 ∷ []) [] (cond {A = Outcome ℕ × List ℕ} b (answer line at text, Rattle.printer.specs.Lent.line_after line at text) (refuses (refusal 11 []), line)).0
    go true = answer_only line at text
    go false = a_refusal tt
