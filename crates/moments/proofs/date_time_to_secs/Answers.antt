-- `moments::date_time_to_secs`: a near year, or the parts of the exact difference.
use Rattle.std.proofs.Common.{◌≡◌, ℕ, ◌≤◌, sym, ap, ◌∙◌, arith, ℤ, pos, nat_abs, ◌+ℤ◌, ◌*ℤ◌, to_z-of_z, w64}
use Rattle.integers.specs.Integers.{Proper, checked}
use Rattle.integers.proofs.Machine.{known, known64}
use Rattle.integers.proofs.Floor.{PartsOf, of_split, of_sub, whole_of, proper}
use Rattle.calendar.specs.Walk.{Valid}
use Rattle.calendar.specs.Closed.{day_number}
use Rattle.moments.specs.declared.Moment.{Moment}
use Rattle.moments.specs.Moments.{ValidTime, second_of_day, seconds_of}
use Rattle.moments.proofs.Moments.{day_near, second_within}
use Rattle.moments.proofs.date_time_to_secs.Goals as goal

-- the moment's own parts: the day, and the second of the day
moment_parts : (m : Moment) {day : ℤ} {second : ℕ} → ValidTime m.time → day ≡ day_number m.date → second ≡ second_of_day m.time → PartsOf 86400 (seconds_of m) (record { quotient = day; rest = second })
unfolding seconds_of
moment_parts m {day} {second} v e f =
    record { whole = sym (ap (λ z. z *ℤ pos 86400 +ℤ pos second) e ∙ ap (λ n. day_number m.date *ℤ pos 86400 +ℤ pos n) f); small = rw f (second_within m.time v) }

proper_moment : (m : Moment) {day : ℤ} {second : ℕ} → (nat_abs m.date.year ≤ 1_000_000_000_000) × Valid m.date × ValidTime m.time → day ≡ day_number m.date → second ≡ second_of_day m.time → Proper 86400 (record { quotient = day; rest = second })
proper_moment m p e f =
    record { small = rw f (second_within m.time p.2); divisor = omega arith; quotient = omega (arith, ap nat_abs e, day_near m.date p.1, p.0) }

pub sub_parts-difference-requires : goal.sub_parts-difference-requires
sub_parts-difference-requires c =
    let day = to_z-of_z {w = w64} (known64 c.day_of_date.result c.day_of_date.type_inv).self ∙ c.day_of_date.ensures in
    let g = known c.ranges.epoch in
    (proper_moment c.args.m c.requires day c.second_of_day.ensures, proper _ (of_split c.ranges.epoch c.floor_split.ensures) (omega arith) (omega arith) (omega arith))

pub returns : goal.returns
returns c =
    let day = to_z-of_z {w = w64} (known64 c.day_of_date.result c.day_of_date.type_inv).self ∙ c.day_of_date.ensures in
    c.floor_join.ensures ∙ ap checked (whole_of _ (of_sub (moment_parts c.args.m c.requires.2 day c.second_of_day.ensures) (of_split c.ranges.epoch c.floor_split.ensures) c.sub_parts-difference.ensures))
