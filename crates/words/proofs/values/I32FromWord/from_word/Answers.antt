-- `words::values::I32FromWord::from_word`: the number is within its type (`signed_range`).
use Rattle.std.proofs.Common.{sym, ◌∙◌, w32, w64, SFits, to_z-of_z, arith, rules}
use Rattle.integers.proofs.Machine.{signed, known}
use Rattle.words.proofs.Ranges.{signed_range}
use Rattle.words.proofs.values.I32FromWord.from_word.Goals as goal

pub overflow_cast-result : goal.overflow_cast-result
overflow_cast-result c =
    let f : SFits w64 c.in_ok-n.n = search rules in
    omega (arith, signed, known f, signed_range _ _ (sym c.parse_signed.ensures ∙ c.in_ok-n.was))

pub returns : goal.returns
returns c =
    let f : SFits w64 c.in_ok-n.n = search rules in
    let g = overflow_cast-result c in
    rw (to_z-of_z {w = w32} g, to_z-of_z {w = w64} f) (sym c.in_ok-n.was ∙ c.parse_signed.ensures)
