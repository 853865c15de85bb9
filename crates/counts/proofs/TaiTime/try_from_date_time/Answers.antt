-- `TaiTime::try_from_date_time`: the field that is refused first, or else the range of the sum, which a year of 32 bits keeps near.
use Rattle.std.proofs.Common.{◌≡◌, ◌≤◌, ap, subst, ◌∙◌, arith, ℤ, nat_abs, ◌-ℤ◌, to_z-of_z, to_z, of_z, w32, w64, SFits, rules}
use Rattle.integers.specs.Integers.{checked}
use Rattle.integers.proofs.Signed.{size_law, apart}
use Rattle.integers.proofs.Machine.{known, fit}
use Rattle.errors.specs.Refusals.{Outcome, gives, refuses, of_date_time}
use Rattle.errors.proofs.Told.{handed_on}
use Rattle.moments.specs.Moments.{seconds_of}
use Rattle.counts.specs.Counts.{fields_checked, with_nanos, from_date_time}
use Rattle.counts.proofs.Dates.{field_refused, moment, exists, secs_given, secs_refused, no_secs}
use Rattle.counts.proofs.TaiTime.try_from_date_time.Goals as goal
use Rattle.counts.proofs.TaiTime.try_from_date_time.Goals.{After-from, After-moment_of, After-near_to_secs}

-- a year of 32 bits
wide : (y : ℤ) → SFits w32 y → SFits w64 y
wide y f = fit w64 y (omega (arith, known f))

small : (y : ℤ) → SFits w32 y → nat_abs y ≤ 10_000_000_000
small y f = omega (arith, known f, size_law y, apart y)

year : (c : After-from) → to_z w64 (of_z w64 c.from.result) ≡ c.args.year
year c = ap (λ y. to_z w64 (of_z w64 y)) (c.from.ensures ∙ to_z-of_z {w = w32} c.ranges.year) ∙ to_z-of_z {w = w64} (wide c.args.year c.ranges.year)

-- what the calls say, of the numbers themselves
all : (c : After-moment_of) (rest : Outcome ℤ) → let a = c.args in rest ≡ fields_checked a.year a.month a.day a.hour a.min a.sec a.nano rest
all c rest = let a = c.args in subst (λ y. rest ≡ fields_checked y a.month a.day a.hour a.min a.sec a.nano rest) (year (search)) (c.in_ok-check_fields.ensures rest)

is : (c : After-moment_of) → let a = c.args in c.moment_of.result ≡ moment a.year a.month a.day a.hour a.min a.sec
is c = let a = c.args in c.moment_of.ensures ∙ ap (λ y. moment y a.month a.day a.hour a.min a.sec) (year (search))

counted : (c : After-near_to_secs) → c.near_to_secs.result ≡ checked (seconds_of c.moment_of.result -ℤ c.args.epoch.0)
counted c = let h : SFits w64 c.args.epoch.0 = search rules in simp to_z-of_z at c.near_to_secs.ensures

pub returns-in_err-check_fields : goal.returns-in_err-check_fields
unfolding from_date_time
returns-in_err-check_fields c =
    let a = c.args in
    let e = c.in_err-check_fields.field-0.0 in
    let h : (rest : Outcome ℤ) → refuses (of_date_time e) ≡ fields_checked a.year a.month a.day a.hour a.min a.sec a.nano rest
    = λ rest. subst (λ y. refuses (of_date_time e) ≡ fields_checked y a.month a.day a.hour a.min a.sec a.nano rest) (year (search)) (c.in_err-check_fields.ensures rest) in
    handed_on _ of_date_time c.from_residual.result _ c.from_residual.ensures.1 ∙ ap (with_nanos a.nano) (field_refused a.epoch.0 a.year a.month a.day a.hour a.min a.sec a.nano e h)

pub near_to_secs-requires : goal.near_to_secs-requires
near_to_secs-requires c = exists c.args.epoch.0 _ _ _ _ _ _ _ (all (search)) (is (search)) (small c.args.year c.ranges.year)

pub returns-in_err-secs : goal.returns-in_err-secs
unfolding from_date_time
returns-in_err-secs c =
    let e = c.in_err-secs.ensures in
    let r = c.from_residual-in_err-secs in
    handed_on _ of_date_time r.result _ r.ensures.1 ∙ ap (λ e. refuses (of_date_time e)) (no_secs e.value e.ok_part)
    ∙ ap (with_nanos c.args.nano) (secs_refused _ _ _ _ _ _ _ _ (all (search)) (is (search)) (counted (search)) e.ok_part)

pub returns : goal.returns
unfolding from_date_time
returns c =
    let f : SFits w64 c.in_ok-secs.secs = search rules in
    ap (λ x. gives (x, c.args.nano)) (to_z-of_z {w = w64} f)
    ∙ ap (with_nanos c.args.nano) (secs_given _ _ _ _ _ _ _ _ (all (search)) (is (search)) (counted (search)) c.in_ok-secs.ensures.ok_part)
