-- Document 01, "How a stamp is written": the longest text has 38 bytes.
use mathlib.Core.Path.{◌≡◌, ap}
use Prim.Native.Nat.{ℕ, ◌≤◌}
use lib.IntN.{ℤ, pos, ◌+ℤ◌}
use lib.ListN.{length}
use Rattle.std.specs.Prelude.{Option, None}
use Rattle.counts.specs.Constants.{earliest}
use Rattle.moments.specs.Moments.{moment_at}
use Rattle.moments.proofs.Moments.{year_within}
use Rattle.printer.specs.Lent.{by_room}
use Rattle.printer.specs.Display.{instant, time_text}
use Rattle.printer.proofs.Text.{text_bound}
use Rattle.texts.specs.Texts.{bytes}
use Rattle.demands.specs.Values.{I64, Timestamp}
use Rattle.demands.specs.OurReadings.{longest_text}
use Rattle.demands.proofs.Integers.{fits}
use Rattle.demands.proofs.Lent.{written}
use Rattle.demands.proofs.Readings.{our_readings}

-- No text of a timestamp over an i64 epoch has more, at any precision,
pub no_text_is_longer : (secs : ℤ) (nanos : ℕ) (epoch : ℤ) (precision : Option ℕ) → Timestamp secs nanos → I64 epoch → length (time_text secs nanos epoch precision) ≤ 38
unfolding time_text
no_text_is_longer secs nanos epoch precision t e =
    text_bound (instant (moment_at (secs +ℤ epoch)) nanos) precision (record { year = year_within secs epoch (fits secs t.secs_fit) (fits epoch e); nanos = t.nanos_to })

-- and one has them all.
pub one_text_has_38 : length (time_text earliest.0 999999999 (pos 0) None) ≡ 38
unfolding by_room
one_text_has_38 =
    (written earliest.0 999999999 (pos 0) None (bytes longest_text) 0 (ap (λ x. x.0) (our_readings.0 (bytes longest_text) 0))).is_length
