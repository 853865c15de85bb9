-- `stages::parse_from_month`: each stage reads on behind its field, or stops there.
use Rattle.std.proofs.Common.{sym, ◌∙◌, w64, to_z-of_z}
use Rattle.std.proofs.lemmas.Result.{err_from_is_err_and}
use Rattle.stages.specs.Text.{from_month}
use Rattle.stages.proofs.parse_from_month.Goals as goal

pub returns-in_err-month : goal.returns-in_err-month
unfolding from_month
returns-in_err-month c =
    let p = err_from_is_err_and c.from_residual.result c.from_residual.ensures.1 in
    rw (p.1, p.2) (sym (c.in_err-month.ensures _))

pub returns-in_err-day : goal.returns-in_err-day
unfolding from_month
returns-in_err-day c =
    let p = err_from_is_err_and c.from_residual-in_err-day.result c.from_residual-in_err-day.ensures.1 in
    rw (p.1, p.2) (sym (c.in_ok-month.ensures _ ∙ c.in_err-day.ensures _))

pub returns-in_err-hour : goal.returns-in_err-hour
unfolding from_month
returns-in_err-hour c =
    let p = err_from_is_err_and c.from_residual-in_err-hour.result c.from_residual-in_err-hour.ensures.1 in
    rw (p.1, p.2) (sym (c.in_ok-month.ensures _ ∙ c.in_ok-day.ensures _ ∙ c.in_err-hour.ensures _))

pub returns-in_err-min : goal.returns-in_err-min
unfolding from_month
returns-in_err-min c =
    let p = err_from_is_err_and c.from_residual-in_err-min.result c.from_residual-in_err-min.ensures.1 in
    rw (p.1, p.2) (sym (c.in_ok-month.ensures _ ∙ c.in_ok-day.ensures _ ∙ c.in_ok-hour.ensures _ ∙ c.in_err-min.ensures _))

pub returns-in_err-sec : goal.returns-in_err-sec
unfolding from_month
returns-in_err-sec c =
    let p = err_from_is_err_and c.from_residual-in_err-sec.result c.from_residual-in_err-sec.ensures.1 in
    rw (p.1, p.2) (sym (c.in_ok-month.ensures _ ∙ c.in_ok-day.ensures _ ∙ c.in_ok-hour.ensures _ ∙ c.in_ok-min.ensures _ ∙ rw (← c.pull_seconds.ensures, c.in_err-sec.was)))

pub returns : goal.returns
unfolding from_month
returns c =
    rw (to_z-of_z {w = w64} c.ranges.year)
    (sym (c.in_ok-month.ensures _ ∙ c.in_ok-day.ensures _ ∙ c.in_ok-hour.ensures _ ∙ c.in_ok-min.ensures _ ∙ rw (← c.pull_seconds.ensures, c.in_ok-sec.was)))
