-- `printed_parts::behind_point`.
use Rattle.printed_parts.specs.Parts.{part_text}
use Rattle.printed_parts.proofs.Fraction.{point_first}
use Rattle.printed_parts.proofs.behind_point.Goals as goal

pub returns : goal.returns
unfolding part_text
returns c = rw c.then_some.ensures (point_first c.args.width c.args.value)
