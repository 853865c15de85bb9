-- What each answer says, by document 01's numbers and values. A duration is said as (seconds, nanoseconds).
use Rattle.std.specs.Prelude.{Result, ℕ}
use Rattle.std.specs.declared.cmp.Ordering.{Ordering}
use Rattle.errors.specs.Refusals.{Outcome, says, of_count}
use Rattle.errors.specs.declared.CountError.{CountError}
use Rattle.durations.specs.declared.Duration.{Duration}

abbrev pub said_duration : Result Duration CountError → Outcome (ℕ × ℕ)
said_duration r = says (λ d. (d.secs, d.nanos)) of_count r

abbrev pub said_ordering : Result Ordering CountError → Outcome Ordering
said_ordering r = says (λ o. o) of_count r
