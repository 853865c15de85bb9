-- `desk::lent::print_in`: the pieces are written one behind the other (`wrote_on`).
use Rattle.texts.proofs.Wrotes.{wrote_on}
use Rattle.desk.proofs.Entries.{length_said}
use Rattle.desk.proofs.lent.print_in.Goals as goal

pub returns-clause-wrote : goal.returns-clause-wrote
returns-clause-wrote c =
    rw (← c.display-printed.ensures, ← length_said c.display-printed.result c.answered.result c.answered.ensures) (wrote_on (wrote_on c.put_said.ensures.wrote c.put.ensures) c.put_hex.ensures.wrote)
