-- `printed_parts::put_part`: with a mark, or with none.
use Rattle.std.proofs.Common.{◌∙◌, add-one, arith, length-set}
use Rattle.printed_parts.specs.Parts.{part_text}
use Rattle.printed_parts.proofs.Lengths.{marked_length, bare_length}
use Rattle.printed_parts.proofs.put_part.Goals as goal

pub bounds-s-at : goal.bounds-s-at
bounds-s-at c = omega (arith, marked_length c.args.p c.in-Some.is)

pub put_number-requires : goal.put_number-requires
put_number-requires c = (simp length-set (omega (arith, marked_length c.args.p c.in-Some.is)), c.args.p.bounded.value)

pub put_number-requires-in-None : goal.put_number-requires-in-None
put_number-requires-in-None c = (omega (arith, bare_length c.args.p c.in-None.is), c.args.p.bounded.value)

pub returns-in-Some-clause-behind : goal.returns-in-Some-clause-behind
returns-in-Some-clause-behind c = omega (arith, marked_length c.args.p c.in-Some.is)

pub returns-in-Some-clause-written : goal.returns-in-Some-clause-written
unfolding part_text
returns-in-Some-clause-written c = c.put_number.ensures ∙ rw (c.in-Some.is, add-one)

pub returns-in-None-clause-behind : goal.returns-in-None-clause-behind
returns-in-None-clause-behind c = omega (arith, bare_length c.args.p c.in-None.is)

pub returns-in-None-clause-written : goal.returns-in-None-clause-written
unfolding part_text
returns-in-None-clause-written c = c.put_number-in-None.ensures ∙ rw c.in-None.is
