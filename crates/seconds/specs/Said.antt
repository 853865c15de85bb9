-- What each answer says, by document 01's numbers and values. A timestamp is said as (seconds, nanoseconds).
use Rattle.std.specs.Prelude.{Result, ℕ, ℤ}
use Rattle.errors.specs.Refusals.{Outcome, says, of_count}
use Rattle.errors.specs.declared.CountError.{CountError}
use Rattle.seconds.specs.declared.UnixSeconds.{UnixSeconds}

abbrev pub said_counted : Result (ℤ × ℕ) CountError → Outcome (ℤ × ℕ)
said_counted r = says (λ t. t) of_count r

abbrev pub said_unix : Result UnixSeconds CountError → Outcome ℤ
said_unix r = says (λ u. u.0) of_count r
