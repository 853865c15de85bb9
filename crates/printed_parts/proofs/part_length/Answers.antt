-- `printed_parts::part_length`.
use Rattle.printed_parts.proofs.Lengths.{part_length}
use Rattle.printed_parts.proofs.part_length.Goals as goal

pub returns : goal.returns
returns c = rw c.is_some.ensures (part_length c.args.p)
