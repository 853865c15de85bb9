-- `reader::from_str`: what the text says, and what the date's count says of it.
use Rattle.std.proofs.Common.{◌≡◌, Ok, ◌≤◌, sym, ap, ◌∙◌, arith, nat_abs, w64, SFits, to_z-of_z, rules}
use Rattle.errors.specs.Refusals.{gives}
use Rattle.counts.specs.Said.{said_secs}
use Rattle.counts.specs.Counts.{with_nanos, date_time_secs, from_date_time}
use Rattle.stages.specs.Text.{parsed}
use Rattle.std.proofs.lemmas.Result.{err_from_is_err_and}
use Rattle.reader.specs.Stamp.{stamped, inside_range_error, read_text, year_limit}
use Rattle.stages.proofs.YearLimit.{year_within, within_limit}
use Rattle.reader.proofs.stamp.from_str.Goals.{In_ok-fields, After-date_time_secs}
use Rattle.reader.proofs.stamp.from_str.Goals as goal

-- what the text says
says : (c : In_ok-fields) → parsed year_limit c.args.text.now ≡ Ok c.in_ok-fields.fields
says c = sym c.parse_date_time.ensures ∙ c.in_ok-fields.was

year_small : (c : In_ok-fields) → nat_abs c.in_ok-fields.fields.year ≤ year_limit
year_small c = within_limit (year_within year_limit _) (says c)

-- what the date's count says, of the numbers themselves
counted : (c : After-date_time_secs) → let f = c.in_ok-fields.fields in said_secs c.date_time_secs.result ≡ date_time_secs c.args.epoch.0 f.year f.month f.day f.hour f.min f.sec f.nano
counted c =
    let f : SFits w64 c.in_ok-fields.fields.year = search rules in
    let g : SFits w64 c.args.epoch.0 = search rules in
    simp to_z-of_z at c.date_time_secs.ensures

pub date_time_secs-requires : goal.date_time_secs-requires
date_time_secs-requires c = let k = goal.at.date_time_secs-requires c in omega (arith, year_small k.In_ok-fields)

pub returns-in_err-fields : goal.returns-in_err-fields
unfolding read_text
returns-in_err-fields c =
    let p = err_from_is_err_and c.from_residual.result c.from_residual.ensures.1 in
    rw (p.1, p.2) (sym (ap (stamped c.args.epoch.0) (sym c.parse_date_time.ensures ∙ c.in_err-fields.was)))

-- what the date says, of the text
dated : (c : After-date_time_secs) → parsed year_limit c.args.text.now ≡ Ok c.in_ok-fields.fields → inside_range_error (with_nanos c.in_ok-fields.fields.nano (said_secs c.date_time_secs.result)) ≡ stamped c.args.epoch.0 (parsed year_limit c.args.text.now)
unfolding from_date_time
dated c e = ap (λ o. inside_range_error (with_nanos c.in_ok-fields.fields.nano o)) (counted c) ∙ sym (ap (stamped c.args.epoch.0) e)

pub returns-in_err-secs : goal.returns-in_err-secs
unfolding read_text
returns-in_err-secs c =
    let k = goal.at.returns-in_err-secs c in
    let p = err_from_is_err_and c.from_residual-in_err-secs.result c.from_residual-in_err-secs.ensures.1 in
    rw (p.1, p.2) (ap (λ a. inside_range_error (with_nanos c.in_ok-fields.fields.nano (said_secs a))) (sym c.in_err-secs.was) ∙ dated k.After-date_time_secs (says k.In_ok-fields))

pub returns : goal.returns
unfolding read_text
returns c =
    let k = goal.at.returns c in
    let f : SFits w64 c.in_ok-secs.secs = search rules in
    let n = c.in_ok-fields.fields.nano in
    ap (λ x. gives (x, n)) (to_z-of_z {w = w64} f) ∙ ap (λ a. inside_range_error (with_nanos n (said_secs a))) (sym c.in_ok-secs.was) ∙ dated k.After-date_time_secs (says k.In_ok-fields)
