-- Moments: counts of seconds and moments are one to one, and an earlier count is an earlier moment.
use mathlib.Core.Path.{◌≡◌, refl, sym, ap, ◌∙◌}
use Prim.Native.Nat.{ℕ, ◌+◌, ◌*◌, ◌/◌, ◌%◌, ◌^◌, ◌≤◌, ◌<◌}
use native.Mathlib.Omega.{arith}
use lib.IntN.{ℤ, pos, nat_abs, ◌+ℤ◌, ◌-ℤ◌, ◌*ℤ◌}
use lib.Signed.{◌<ℤ◌}
use mir.Syntax.{w64}
use mir.Val.{SFits}
use Rattle.integers.specs.Integers.{Floor, floor_div, floor_mod}
use Rattle.integers.proofs.Signed.{apart, size_law, add_law, diff_law, times_law, Tri, before, same, after, tri}
use Rattle.integers.proofs.Machine.{two}
use Rattle.integers.proofs.Floor.{floor_law, floor_one, floor_order, splits, to_floor}
use Rattle.calendar.specs.declared.Date.{Date}
use Rattle.moments.specs.declared.Time.{Time}
use Rattle.moments.specs.declared.Moment.{Moment}
use Rattle.calendar.specs.Walk.{is_leap, Valid, walk}
use Rattle.calendar.specs.Closed.{year_start, day_of_year, day_number}
use Rattle.moments.specs.Moments.{time_of_day, moment_at, ValidTime, second_of_day, seconds_of, EarlierMoment, by_date, by_hour, by_minute, by_second}
use Rattle.calendar.proofs.Years.{some_length, start_near, start_far}
use Rattle.calendar.proofs.Months.{day_of_year_end}
use Rattle.calendar.proofs.Walk.{day_law, walk_valid, day_walk, walk_day, walk_order}

-- ---- sizes
pub day_near : (d : Date) → Valid d → nat_abs (day_number d) ≤ nat_abs d.year * 368 + 800000
unfolding day_number
day_near d v =
    let y = year_start d.year in
    let n = pos (day_of_year d) in
    let z = y +ℤ n -ℤ pos 719528 in
    omega (arith, start_near d.year, day_of_year_end d v, some_length (is_leap d.year), size_law y, size_law z, apart z, add_law y n, diff_law (y +ℤ n) (pos 719528))

pub second_within : (t : Time) → ValidTime t → second_of_day t < 86400
unfolding second_of_day
second_within t v = omega (arith, v.hour_to, v.minute_to, v.second_to)

pub seconds_near : (m : Moment) → nat_abs m.date.year ≤ 10_000_000_000 → Valid m.date → ValidTime m.time → nat_abs (seconds_of m) ≤ 400_000_000_000_000_000
unfolding seconds_of
seconds_near m h v t =
    let y = day_number m.date in
    let n = pos (second_of_day m.time) in
    let z = y *ℤ pos 86400 +ℤ n in
    omega (arith, day_near m.date v, second_within m.time t, size_law y, size_law z, apart z, times_law y 86400, add_law (y *ℤ pos 86400) n)

-- ---- the time of day
time_valid : (n : ℕ) → n < 86400 → ValidTime (time_of_day n)
unfolding time_of_day
time_valid n h = record { hour_to = omega arith; minute_to = omega arith; second_to = omega arith }

second_time : (n : ℕ) → second_of_day (time_of_day n) ≡ n
unfolding second_of_day time_of_day
second_time n = omega arith

time_second : (t : Time) → ValidTime t → time_of_day (second_of_day t) ≡ t
unfolding second_of_day time_of_day
time_second t v =
    let h : (t.hour * 3600 + t.minute * 60 + t.second) / 3600 ≡ t.hour = omega (arith, v.minute_to, v.second_to) in
    let m : (t.hour * 3600 + t.minute * 60 + t.second) / 60 % 60 ≡ t.minute = omega (arith, v.minute_to, v.second_to) in
    let s : (t.hour * 3600 + t.minute * 60 + t.second) % 60 ≡ t.second = omega (arith, v.second_to) in
    λ i. record { hour = h i; minute = m i; second = s i }

-- ---- moments and counts
day_of : (z : ℤ) → Floor 86400 z (floor_div 86400 z) (floor_mod 86400 z)
day_of z = floor_law 86400 z (omega arith)

-- A MOMENT GIVES ITS COUNT BACK
pub seconds_moment : (z : ℤ) → seconds_of (moment_at z) ≡ z
unfolding seconds_of moment_at
seconds_moment z =
    ap (λ n. n *ℤ pos 86400 +ℤ pos (second_of_day (time_of_day (floor_mod 86400 z)))) (day_walk (floor_div 86400 z)) ∙ ap (λ n. floor_div 86400 z *ℤ pos 86400 +ℤ pos n) (second_time (floor_mod 86400 z)) ∙ sym (day_of z).whole

-- AND A COUNT ITS MOMENT
pub moment_seconds : (m : Moment) → Valid m.date → ValidTime m.time → moment_at (seconds_of m) ≡ m
unfolding seconds_of moment_at
moment_seconds m v w =
    let f : Floor 86400 (seconds_of m) (day_number m.date) (second_of_day m.time) = record { whole = refl; small = second_within m.time w } in
    let o = floor_one (day_of (seconds_of m)) f in
    let d = ap walk o.0 ∙ walk_day m.date v in
    let t = ap time_of_day o.1 ∙ time_second m.time w in
    λ i. record { date = d i; time = t i }

pub moment_valid : (z : ℤ) → Valid (moment_at z).date × ValidTime (moment_at z).time
unfolding moment_at
moment_valid z = (walk_valid (floor_div 86400 z), time_valid (floor_mod 86400 z) (day_of z).small)

-- AN EARLIER COUNT IS AN EARLIER MOMENT
earlier_time : (d e : Date) (m n : ℕ) → d ≡ e → m < n → EarlierMoment (record { date = d; time = time_of_day m }) (record { date = e; time = time_of_day n })
unfolding time_of_day
earlier_time d e m n p h = go (tri (m / 3600) (n / 3600)) (tri (m / 60 % 60) (n / 60 % 60))
  where
    go : Tri (m / 3600 < n / 3600) (m / 3600 ≡ n / 3600) (n / 3600 < m / 3600) → Tri (m / 60 % 60 < n / 60 % 60) (m / 60 % 60 ≡ n / 60 % 60) (n / 60 % 60 < m / 60 % 60) → EarlierMoment (record { date = d; time = time_of_day m }) (record { date = e; time = time_of_day n })
    go (before l) t = by_hour p l
    go (after l) t = absurd (omega arith)
    go (same q) (before l) = by_minute p q l
    go (same q) (after l) = absurd (omega arith)
    go (same q) (same r) = by_second p q r (omega arith)

pub moment_order : (y z : ℤ) → y <ℤ z → EarlierMoment (moment_at y) (moment_at z)
unfolding moment_at
moment_order y z h = go (floor_order (day_of y) (day_of z) h)
  where
    go : Tri (floor_div 86400 y <ℤ floor_div 86400 z) ((floor_div 86400 y ≡ floor_div 86400 z) × (floor_mod 86400 y < floor_mod 86400 z)) ⊥ → EarlierMoment (moment_at y) (moment_at z)
    go (before l) = by_date (walk_order (floor_div 86400 y) (floor_div 86400 z) l)
    go (same e) = earlier_time (walk (floor_div 86400 y)) (walk (floor_div 86400 z)) _ _ (ap walk e.0) e.1
    go (after b) = absurd b

-- ---- from whole cycles since year 0 to days since 1970
pub days_of_cycles : {z q : ℤ} {r : ℕ} → Floor 12622780800 (z +ℤ pos 62167219200) q r → Floor 86400 z (q *ℤ pos 146097 +ℤ pos (r / 86400) -ℤ pos 719528) (r % 86400)
days_of_cycles {z} {q} {r} f =
    let x = q *ℤ pos 146097 in
    let d = pos (r / 86400) in
    to_floor (omega (arith, splits f, add_law z (pos 62167219200), times_law q 146097, add_law x d, diff_law (x +ℤ d) (pos 719528))) (omega arith)

pub moment_of : {z : ℤ} {q : ℤ} {r : ℕ} (d : Date) (t : Time) → Floor 86400 z q r → d ≡ walk q → t ≡ time_of_day r → record { date = d; time = t } ≡ moment_at z
unfolding moment_at
moment_of {z} d t f e g =
    let o = floor_one f (day_of z) in
    let p = e ∙ ap walk o.0 in
    let q = g ∙ ap time_of_day o.1 in
    λ i. record { date = p i; time = q i }

-- ---- the years that two i64's sum can reach
year_of_day : (d : Date) → Valid d → nat_abs (day_number d) ≤ 220_000_000_000_000 → nat_abs d.year < 10 ^ 12
year_of_day d v h =
    let y = year_start d.year in
    let n = day_number d in
    let k : nat_abs y ≤ 220_000_001_000_000 = omega (arith, day_law d, day_of_year_end d v, some_length (is_leap d.year), size_law y, size_law n, apart y) in
    omega (arith, start_far d.year)

pub year_within : (y z : ℤ) → SFits w64 y → SFits w64 z → nat_abs (moment_at (y +ℤ z)).date.year < 10 ^ 12
unfolding moment_at
year_within y z f g =
    let n = floor_div 86400 (y +ℤ z) in
    let t = two f g in
    let o = day_of (y +ℤ z) in
    let k : nat_abs n ≤ 220_000_000_000_000 = omega (arith, splits o, o.small, size_law n, apart n) in
    year_of_day (walk n) (walk_valid n) (rw (day_walk n) k)
