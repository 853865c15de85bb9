-- What a part says that is worked out before it is written.
use Rattle.std.specs.Prelude.{List, ℕ}
use Rattle.std.specs.List.{cons_option}
use Rattle.digits.specs.Digits.{digits}
use Rattle.printed_parts.specs.declared.part.Part.{Part}

-- a part's text: its mark, if it has one, and its digits
unfoldable pub part_text : Part → List ℕ
part_text p = cons_option p.mark (digits p.width p.value)
