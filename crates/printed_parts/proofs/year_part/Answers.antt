-- `printed_parts::year_part`: the size of a year below 0 is 0 - year.
use Rattle.std.proofs.Common.{◌<◌, ◌^◌, w64, to_z-of_z, arith}
use Rattle.digits.proofs.Width.{width_le}
use Rattle.printed_parts.specs.Parts.{part_text}
use Rattle.printed_parts.proofs.Year.{year_is}
use Rattle.printed_parts.proofs.year_part.Goals as goal

pub invariant_of-result : goal.invariant_of-result
invariant_of-result c =
    let f = to_z-of_z {w = w64} c.ranges.year in
    let n = c.unsigned_abs-size.result in
    let h : n < 10 ^ 12 = rw (c.unsigned_abs-size.ensures.value, f) c.requires in
    record { bounded = record { width = rw c.width_of.ensures (width_le 12 n (omega arith) h (omega arith)); value = omega arith } }

pub returns : goal.returns
unfolding part_text
returns c = rw (c.then_some.ensures, c.width_of.ensures, c.unsigned_abs-size.ensures.value, to_z-of_z {w = w64} c.ranges.year) (year_is c.args.year)
