-- `desk::lent::print`: `ok ` in front of the text (`printed`), or a refusal into the line as it was (`refused`).
use Rattle.std.proofs.Common.{ap, ◌∙◌, arith, rules}
use Rattle.printer.specs.Lent.{said}
use Rattle.desk.specs.Verbs.{answer_of}
use Rattle.desk.proofs.Prints.{printed, refused}
use Rattle.desk.proofs.lent.print.Goals as goal

pub overflow_add-out : goal.overflow_add-out
overflow_add-out c =
    let w = printed _ _ _ _ _ _ (omega arith) (search rules) (search rules) c.display.ensures (ap said c.in-Ok.is) in
    record { fits = omega (arith, w.0, c.put.ensures.put.place) }

pub returns-in-Ok-clause-wrote : goal.returns-in-Ok-clause-wrote
unfolding answer_of
returns-in-Ok-clause-wrote c =
    let w = printed _ _ _ _ _ _ (omega arith) (search rules) (search rules) c.display.ensures (ap said c.in-Ok.is) in
    rw (← c.epoch_word.ensures, ← c.time_at.ensures.secs_value, ← c.time_at.ensures.nanos_value, ← c.precision_at.ensures) (record { put = record { line = c.put.ensures.put.line ∙ w.1; place = omega (arith, c.put.ensures.put.place) }; size = c.put.ensures.size ∙ c.display.auto.line; same = c.put.ensures.same })

pub returns-in-Ok-clause-within : goal.returns-in-Ok-clause-within
returns-in-Ok-clause-within c =
    let w = printed _ _ _ _ _ _ (omega arith) (search rules) (search rules) c.display.ensures (ap said c.in-Ok.is) in
    omega (arith, c.put.ensures.put.place)

pub returns-in-Err-clause-wrote : goal.returns-in-Err-clause-wrote
unfolding answer_of
returns-in-Err-clause-wrote c =
    let w = refused _ _ _ _ _ _ (omega arith) (search rules) (search rules) c.display.ensures (ap said c.in-Err.is) in
    rw (← c.epoch_word.ensures, ← c.time_at.ensures.secs_value, ← c.time_at.ensures.nanos_value, ← c.precision_at.ensures, ← w.1, c.in-Err.is) (rw (w.0, c.into.ensures) at c.put_refusal.ensures.wrote)
