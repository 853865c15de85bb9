-- `answers::put_refusal`: the pieces are written one behind the other (`wrote_on`).
use Rattle.std.proofs.Common.{◌++◌}
use Rattle.errors.specs.Told.{inner}
use Rattle.texts.specs.Texts.{bytes, natural, integer}
use Rattle.texts.specs.Wrote.{Wrote}
use Rattle.texts.proofs.Wrotes.{wrote_on, wrote_none}
use Rattle.answers.specs.Answers.{name_of, mark, refusal_text}
use Rattle.answers.proofs.Refusals.{told_text}
use Rattle.answers.proofs.put_refusal.Goals as goal
use Rattle.answers.proofs.put_refusal.Goals.{After-put-4}

-- all but the value
named : (c : After-put-4) → Wrote c.args.out.now (bytes "refused " ++ natural (inner c.args.refusal).number ++ bytes " " ++ mark c.in_range_error.result ++ name_of (inner c.args.refusal).number) c.put-4.new.self
named c =
    wrote_on (wrote_on (wrote_on (wrote_on c.put.ensures (rw (c.from.ensures, c.number.ensures) at c.put_natural.ensures.wrote)) c.put-2.ensures) (rw c.mark.ensures.value at c.put-3.ensures)) (rw (c.name.ensures.value, c.number-2.ensures) at c.put-4.ensures)

pub returns-in-Some-clause-wrote : goal.returns-in-Some-clause-wrote
unfolding refusal_text integer
returns-in-Some-clause-wrote c =
    rw (told_text c.args.refusal c.in_range_error.result c.in_range_error.ensures, ← c.value.ensures, c.in-Some.is) (wrote_on (named (goal.at.returns-in-Some-clause-wrote c).After-put-4) (wrote_on (rw c.from-in-Some.ensures at c.put_behind_blank.ensures.wrote) (wrote_none _)))

pub returns-in_default-clause-wrote : goal.returns-in_default-clause-wrote
unfolding refusal_text integer
returns-in_default-clause-wrote c =
    rw (told_text c.args.refusal c.in_range_error.result c.in_range_error.ensures, ← c.value.ensures, c.in_default.is) (wrote_on (named (goal.at.returns-in_default-clause-wrote c).After-put-4) (wrote_none _))
