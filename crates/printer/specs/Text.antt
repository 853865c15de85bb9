-- The text of a stamp: document 01, "How a stamp is written". A byte is a number, and that of `0` is 48.
use Rattle.std.specs.Prelude.{List, ◌++◌, ℕ, ◌^◌, ◌<◌, nat_abs, Option}
use Rattle.digits.specs.Digits.{field}
use Rattle.printed_parts.specs.Text.{dash, year_text, fraction_text}
use Rattle.printer.specs.declared.Instant.{Instant}

-- the bytes ` ` and `:`
abbrev pub space : ℕ
space = 32

abbrev pub colon : ℕ
colon = 58

-- `-MM-DD hh:mm:ss`
unfoldable pub fields_text : Instant → List ℕ
fields_text t =
    field dash t.moment.date.month ++ field dash t.moment.date.day ++ field space t.moment.time.hour ++ field colon t.moment.time.minute
    ++ field colon t.moment.time.second

-- a stamp
unfoldable pub text : Instant → Option ℕ → List ℕ
text t p = year_text t.moment.date.year ++ fields_text t ++ fraction_text p t.nanos

-- the stamps that are printed: a year of up to twelve digits, and nanoseconds of up to nine
pub record Ranged (t : Instant) : Type 0 where
  pub year : nat_abs t.moment.date.year < 10 ^ 12
  pub nanos : t.nanos < 10 ^ 9
