-- `stages::pull_field`: a stage reads on behind its field, or stops there.
use Rattle.std.proofs.Common.{sym, ◌∙◌, ap, Ok}
use Rattle.std.proofs.lemmas.Result.{err_from_is_err_and}
use Rattle.stages.proofs.Stages.{read_on, unended, refused}
use Rattle.stages.proofs.pull_field.Goals as goal

pub returns-in_err-value : goal.returns-in_err-value
returns-in_err-value c =
    let p = err_from_is_err_and c.from_residual.result c.from_residual.ensures.1 in
    rw (p.1, p.2) (refused _ _ (sym c.pull_two_digits.ensures ∙ c.in_err-value.was))

pub returns-in-Got : goal.returns-in-Got
returns-in-Got c = λ next. rw c.skip.ensures (read_on _ _ (sym c.pull_two_digits.ensures ∙ c.in_ok-value.was ∙ ap Ok c.in-Got.is) next)

pub returns-in-Last : goal.returns-in-Last
returns-in-Last c = unended _ _ (sym c.pull_two_digits.ensures ∙ c.in_ok-value.was ∙ ap Ok c.in-Last.is)
