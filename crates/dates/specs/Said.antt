-- What an answer on calendar fields says, by document 01's numbers and values.
use Rattle.std.specs.Prelude.{Result, Ok, Err, ℤ}
use Rattle.errors.specs.Refusals.{Outcome, refuses, of_date_time}
use Rattle.errors.specs.declared.DateTimeError.{DateTimeError}

-- a field's refusal, or, where no field is refused, what comes then
abbrev pub said_checked : {A : Type 0} → Result A DateTimeError → Outcome ℤ → Outcome ℤ
said_checked (Ok x) rest = rest
said_checked (Err e) rest = refuses (of_date_time e)
