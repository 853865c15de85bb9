-- `lines::move_to_front`: the bytes from the place on are copied within the list (`moved`).
use Rattle.lines.proofs.Moves.{moved}
use Rattle.lines.proofs.move_to_front.Goals as goal

pub returns : goal.returns
returns c = moved _ _ c.min-from.ensures c.copy_within.ensures.len c.copy_within.ensures.after
