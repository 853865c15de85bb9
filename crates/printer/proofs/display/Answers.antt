-- `printer::display`: the instant that is printed is that of the moment at seconds plus epoch.
use Rattle.std.proofs.Common.{◌≡◌, ◌^◌, ◌<◌, sym, ap, subst, ◌∙◌, arith, ℤ, nat_abs, ◌+ℤ◌, to_z-of_z, w64, SFits, to_z, of_z, rules}
use Rattle.moments.specs.declared.Moment.{Moment}
use Rattle.moments.specs.Moments.{moment_at}
use Rattle.moments.proofs.Moments.{year_within}
use Rattle.seconds.proofs.Checks.{bad, good}
use Rattle.printer.specs.Text.{text}
use Rattle.printer.specs.Lent.{answer, line_after}
use Rattle.printer.specs.Display.{instant, time_text, displayed}
use Rattle.printer.proofs.display.Goals as goal

-- the moment, of the counts as they are
reads : (secs epoch : ℤ) {m : Moment} → SFits w64 secs → SFits w64 epoch → m ≡ moment_at (to_z w64 (of_z w64 secs) +ℤ to_z w64 (of_z w64 epoch)) → m ≡ moment_at (secs +ℤ epoch)
reads secs epoch f g e = simp to_z-of_z at e

pub returns-then-t-gt999999999 : goal.returns-then-t-gt999999999
unfolding displayed
returns-then-t-gt999999999 c = rw (bad c.args.t.nanos c.if-t-gt999999999.true)

pub print_at-requires : goal.print_at-requires
print_at-requires c =
    let secs = c.args.t.secs in
    let epoch = c.args.epoch.0 in
    let f : SFits w64 secs = search rules in
    let g : SFits w64 epoch = search rules in
    let k = reads secs epoch f g c.secs_to_date_time-moment.ensures in
    record { year = subst (λ (m : Moment). nat_abs m.date.year < 10 ^ 12) (sym k) (year_within secs epoch f g); nanos = omega arith }

pub returns : goal.returns
unfolding displayed time_text
returns c =
    let k = reads c.args.t.secs c.args.epoch.0 (search rules) (search rules) c.secs_to_date_time-moment.ensures in
    let s = c.args.line.now in
    let at = c.args.at in
    let p = c.print_at.ensures.answered ∙ ap (λ m. answer s at (text (instant m c.args.t.nanos) c.args.precision)) k in
    let q = c.print_at.ensures.written ∙ ap (λ m. line_after s at (text (instant m c.args.t.nanos) c.args.precision)) k in
    rw (good c.args.t.nanos (omega arith)) (λ i. (p i, q i))
