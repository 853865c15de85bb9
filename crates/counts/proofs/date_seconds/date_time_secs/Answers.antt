-- `counts::date_time_secs`: the field that is refused first, or else the range of the sum.
use Rattle.std.proofs.Common.{◌≡◌, ap, ◌∙◌, ◌-ℤ◌, to_z-of_z}
use Rattle.integers.specs.Integers.{checked}
use Rattle.moments.specs.Moments.{seconds_of}
use Rattle.errors.specs.Refusals.{of_date_time}
use Rattle.errors.proofs.Told.{handed_on}
use Rattle.counts.specs.Said.{said_secs}
use Rattle.counts.specs.Counts.{date_time_secs}
use Rattle.counts.proofs.Dates.{exists, secs_said}
use Rattle.counts.proofs.date_seconds.date_time_secs.Goals as goal

pub returns-in_err-check_fields : goal.returns-in_err-check_fields
unfolding date_time_secs
returns-in_err-check_fields c = handed_on _ of_date_time c.from_residual.result _ c.from_residual.ensures.1 ∙ c.in_err-check_fields.ensures _

pub date_time_to_secs-requires : goal.date_time_to_secs-requires
date_time_to_secs-requires c =
    let d = c.args.d in
    exists c.args.epoch d.year d.month d.day d.hour d.min d.sec d.nano c.in_ok-check_fields.ensures c.moment_of.ensures c.requires

pub returns : goal.returns
returns c =
    let d = c.args.d in
    let e : c.date_time_to_secs.result ≡ checked (seconds_of c.moment_of.result -ℤ c.args.epoch) = simp (to_z-of_z, c.ranges.epoch) at c.date_time_to_secs.ensures in
    ap said_secs c.ok_or.ensures.value ∙ secs_said c.args.epoch d.year d.month d.day d.hour d.min d.sec d.nano c.in_ok-check_fields.ensures c.moment_of.ensures c.date_time_to_secs.result e
