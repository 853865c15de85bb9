-- What each answer says, by document 01's numbers and values. A timestamp is said as (seconds, nanoseconds).
use Rattle.std.specs.Prelude.{Result, ℕ, ℤ}
use Rattle.errors.specs.Refusals.{Outcome, says, of_count, of_date_time}
use Rattle.errors.specs.declared.CountError.{CountError}
use Rattle.errors.specs.declared.DateTimeError.{DateTimeError}
use Rattle.counts.specs.declared.TaiTime.{TaiTime}
pub use Rattle.seconds.specs.Said.{said_counted, said_unix}
pub use Rattle.durations.specs.Said.{said_duration, said_ordering}
pub use Rattle.dates.specs.Said.{said_checked}

abbrev pub pair : TaiTime → ℤ × ℕ
pair t = (t.secs, t.nanos)

abbrev pub said_time : Result TaiTime CountError → Outcome (ℤ × ℕ)
said_time r = says pair of_count r

abbrev pub said_date_time : Result TaiTime DateTimeError → Outcome (ℤ × ℕ)
said_date_time r = says pair of_date_time r

abbrev pub said_secs : Result ℤ DateTimeError → Outcome ℤ
said_secs r = says (λ secs. secs) of_date_time r
