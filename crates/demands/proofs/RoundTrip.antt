-- What is printed by default reads back, over the same epoch.
use mathlib.Core.Path.{◌≡◌, refl, ap, ◌∙◌}
use Prim.Native.Nat.{ℕ, ◌-◌, ◌^◌, ◌≤◌, ◌<◌}
use native.Mathlib.Omega.{arith}
use lib.IntN.{ℤ, nat_abs, ◌+ℤ◌}
use Rattle.std.specs.Prelude.{None}
use Rattle.errors.specs.Refusals.{gives}
use Rattle.calendar.specs.declared.Date.{Date}
use Rattle.moments.specs.declared.Moment.{Moment}
use Rattle.calendar.specs.Walk.{is_leap, month_length, Valid}
use Rattle.moments.specs.Moments.{moment_at, ValidTime}
use Rattle.calendar.proofs.Months.{month_top}
use Rattle.moments.proofs.Moments.{moment_valid}
use Rattle.reader.specs.Stamp.{inside_range_error, stamped, read_text}
use Rattle.printer.specs.Display.{instant, time_text}
use Rattle.demands.specs.Values.{Timestamp}
use Rattle.demands.proofs.DatesWalked.{accepted}
use Rattle.demands.proofs.TextBack.{Printable, text_back}

-- a day of the month has two digits
day_top : (d : Date) → Valid d → d.day ≤ 31
unfolding month_length
day_top d v = omega (arith, v.day_to, month_top (is_leap d.year) (d.month - 1) (omega (arith, v.month_from, v.month_to)))

printable : (limit : ℕ) (m : Moment) (nanos : ℕ) → Valid m.date → ValidTime m.time → nat_abs m.date.year ≤ limit → nat_abs m.date.year < 10 ^ 20 → nanos < 1000000000 → Printable limit (instant m nanos)
printable limit m nanos v t h k n =
    record {
      year = h;
      room = k;
      month = omega (arith, v.month_to);
      day = omega (arith, day_top m.date v);
      hour = omega (arith, t.hour_to);
      minute = omega (arith, t.minute_to);
      second = omega (arith, t.second_to);
      nanos = n;
    }

-- THE ROUND TRIP, for whatever limit the year is within
pub back : (limit : ℕ) (secs : ℤ) (nanos : ℕ) (epoch : ℤ) → Timestamp secs nanos → nat_abs (moment_at (secs +ℤ epoch)).date.year ≤ limit → nat_abs (moment_at (secs +ℤ epoch)).date.year < 10 ^ 20
    → read_text limit epoch (time_text secs nanos epoch None) ≡ gives (secs, nanos)
unfolding read_text time_text
back limit secs nanos epoch t h k =
    let m = moment_at (secs +ℤ epoch) in
    let v = moment_valid (secs +ℤ epoch) in
    ap (stamped epoch) (text_back limit (instant m nanos) (printable limit m nanos v.0 v.1 h k t.nanos_to))
    ∙ ap inside_range_error ((accepted epoch m.date.year m.date.month m.date.day m.time.hour m.time.minute m.time.second nanos secs nanos).1 (record { secs_fit = t.secs_fit; walked = refl }, refl, t.nanos_to))
