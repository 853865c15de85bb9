-- `answers::put_said`: each answer by its kind, one piece behind the other (`wrote_on`).
use Rattle.std.proofs.Common.{w64, SFits, to_z-of_z, rules}
use Rattle.texts.proofs.Wrotes.{wrote_on}
use Rattle.answers.proofs.put_said.Goals as goal

pub returns-in-Time-clause-wrote : goal.returns-in-Time-clause-wrote
returns-in-Time-clause-wrote c =
    let f : SFits w64 c.in-Time.secs = search rules in
    rw (c.in-Ok.is, c.in-Time.is) (wrote_on (wrote_on c.put.ensures (rw (to_z-of_z {w = w64} f) at c.put_integer.ensures.wrote)) (rw c.from.ensures at c.put_behind_blank.ensures.wrote))

pub returns-in-Lasts-clause-wrote : goal.returns-in-Lasts-clause-wrote
returns-in-Lasts-clause-wrote c =
    rw (c.in-Ok.is, c.in-Lasts.is) (wrote_on (wrote_on c.put.ensures c.put_natural.ensures.wrote) (rw c.from-in-Lasts.ensures at c.put_behind_blank-in-Lasts.ensures.wrote))
