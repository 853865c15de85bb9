-- `printer::put_fields`: each field in its place (`fields_in_turn`).
use Rattle.printer.proofs.Text.{fields_in_turn}
use Rattle.printer.proofs.put_fields.Goals as goal

pub returns : goal.returns
returns c = rw (c.put_field-5.ensures, c.put_field-4.ensures, c.put_field-3.ensures, c.put_field-2.ensures, c.put_field.ensures) (fields_in_turn c.args.s.now c.args.at c.args.t)
