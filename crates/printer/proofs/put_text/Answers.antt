-- `printer::put_text`: three texts in a row (`three`).
use Rattle.std.proofs.Common.{◌∙◌, zero-add}
use Rattle.printed_parts.specs.Parts.{part_text}
use Rattle.printer.specs.Text.{fields_text}
use Rattle.printer.proofs.Text.{three, fields_length}
use Rattle.printer.proofs.put_text.Goals as goal

pub returns : goal.returns
returns c =
    let a = c.args in
    let y = c.put_part-at.ensures.behind ∙ zero-add _ in
    rw (c.put_part.ensures.written, c.put_fields.ensures, c.put_part-at.ensures.written, y, ← fields_length a.t)
    (three a.s.now (part_text a.year) (fields_text a.t) (part_text a.fraction))
