-- `fields::pull_seconds`: what follows the point stands behind three bytes.
use Rattle.std.proofs.Common.{◌≡◌, Ok, sym, ap, ◌∙◌}
use Rattle.std.proofs.lemmas.Result.{err_from_is_err_and}
use Rattle.fields.specs.Fields.{seconds}
use Rattle.fields.specs.declared.Field.TheVariants.{Got}
use Rattle.fields.proofs.Behind.{behind_two}
use Rattle.fields.proofs.pull_seconds.Goals as goal

pub returns-in_err-sec : goal.returns-in_err-sec
unfolding seconds
returns-in_err-sec c =
    let p = err_from_is_err_and c.from_residual.result c.from_residual.ensures.1 in
    rw (p.1, p.2, ← c.pull_two_digits.ensures, c.in_err-sec.was)

pub returns-in-Got : goal.returns-in-Got
unfolding seconds
returns-in-Got c =
    let f = c.pull_two_digits.ensures in
    let g : c.pull_two_digits.result ≡ Ok (Got c.in-Got.sec) = c.in_ok-sec.was ∙ ap Ok c.in-Got.is in
    rw (behind_two _ _ (sym f ∙ g), ← c.skip.ensures, ← f, g) c.pull_fraction.ensures

pub returns-in-Last : goal.returns-in-Last
unfolding seconds
returns-in-Last c = rw (← c.pull_two_digits.ensures, c.in_ok-sec.was, c.in-Last.is)
