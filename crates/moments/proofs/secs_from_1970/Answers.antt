-- `moments::secs_from_1970`: the day and the second of the day, each in its range.
use Rattle.std.proofs.Common.{◌≡◌, ℕ, ◌≤◌, ◌<◌, sym, ap, subst, ◌∙◌, arith, ℤ, pos, nat_abs, ◌+ℤ◌, ◌*ℤ◌, to_z-of_z, w64, SFits, to_z}
use mir.Facts.{to_z_pos}
use Rattle.integers.proofs.Machine.{Small, small_size, small_add, small_mul, small_fits, small_pos}
use Rattle.calendar.specs.Walk.{Valid}
use Rattle.calendar.specs.Closed.{day_number}
use Rattle.moments.specs.declared.Moment.{Moment}
use Rattle.moments.specs.Moments.{ValidTime, second_of_day, seconds_of}
use Rattle.moments.proofs.Moments.{day_near, second_within}
use Rattle.moments.proofs.secs_from_1970.Goals as goal

small_day : (m : Moment) {day : ℤ} → (nat_abs m.date.year ≤ 10_000_000_000) × Valid m.date × ValidTime m.time → day ≡ day_number m.date → Small 3_700_000_000_000 day
small_day m p e = small_size (subst (λ z. nat_abs z ≤ 3_700_000_000_000) (sym e) (omega (arith, day_near m.date p.1, p.0)))

-- each value fits
record Fit (m : Moment) (d : ℤ) (s : ℕ) : Type 0 where
  day : SFits w64 d
  days : SFits w64 (d *ℤ pos 86400)
  second : SFits w64 (pos s)
  cast : to_z w64 s ≡ pos s
  sum : SFits w64 (d *ℤ pos 86400 +ℤ pos s)
  is : d *ℤ pos 86400 +ℤ pos s ≡ seconds_of m

fit : (m : Moment) (day : ℤ) (second : ℕ) → (nat_abs m.date.year ≤ 10_000_000_000) × Valid m.date × ValidTime m.time → day ≡ day_number m.date → second ≡ second_of_day m.time → Fit m day second
unfolding seconds_of
fit m day second p e f =
    let d = small_day m p e in
    let s : second < 86400 = rw f (second_within m.time p.2) in
    let b = small_pos {b = 86400} second (omega arith) in
    record {
      day = small_fits tt d;
      days = small_fits tt (small_mul 86400 d);
      second = small_fits tt b;
      cast = to_z_pos w64 (omega arith);
      sum = small_fits tt (small_add (small_mul 86400 d) b);
      is = ap (λ z. z *ℤ pos 86400 +ℤ pos second) e ∙ ap (λ n. day_number m.date *ℤ pos 86400 +ℤ pos n) f;
    }

pub overflow_mul-result : goal.overflow_mul-result
overflow_mul-result c =
    let d = small_day c.args.m c.requires c.day_of_date.ensures in
    let f : SFits w64 c.day_of_date.result = small_fits tt d in
    simp (to_z-of_z, f) (small_fits {w = w64} tt (small_mul 86400 d))

pub overflow_cast-result-2 : goal.overflow_cast-result-2
overflow_cast-result-2 c = (fit c.args.m _ _ c.requires c.day_of_date.ensures c.second_of_day.ensures).second

pub overflow_add-result : goal.overflow_add-result
overflow_add-result c = let k = fit c.args.m _ _ c.requires c.day_of_date.ensures c.second_of_day.ensures in simp (to_z-of_z, k.day, k.days, k.cast) k.sum

pub returns : goal.returns
returns c = let k = fit c.args.m _ _ c.requires c.day_of_date.ensures c.second_of_day.ensures in simp (to_z-of_z, k.day, k.days, k.cast, k.sum) k.is
