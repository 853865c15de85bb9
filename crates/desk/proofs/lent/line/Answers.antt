-- `desk::lent::line`: the bytes of HEX, then the line of them.
use Rattle.std.proofs.Common.{ap, length, length-take, arith}
use Rattle.words.proofs.Places.{hex_value}
use Rattle.words.proofs.Splits.{word_within}
use Rattle.desk.specs.Verbs.{answer_of}
use Rattle.desk.proofs.lent.line.Goals as goal

pub unhex-n-requires : goal.unhex-n-requires
unhex-n-requires c = let e = ap length c.word_at.ensures in omega (arith, word_within 5 c.args.s.now)

pub print_in-requires : goal.print_in-requires
print_in-requires c =
    let e = ap length c.word_at.ensures in
    simp length-take (omega (arith, word_within 5 c.args.s.now, c.unhex-n.ensures.half))

pub returns-clause-wrote : goal.returns-clause-wrote
unfolding answer_of
returns-clause-wrote c =
    rw (← c.epoch_word.ensures, ← c.time_at-t.ensures.secs_value, ← c.time_at-t.ensures.nanos_value, ← c.precision_at.ensures, ← c.value_at-at.ensures, ← hex_value 5 _, ← c.word_at.ensures, ← c.unhex-n.ensures.front) c.print_in.ensures.wrote

pub returns-clause-within : goal.returns-clause-within
returns-clause-within c =
    let b = simp length-take at c.print_in.ensures.within in
    let e = ap length c.word_at.ensures in
    omega (arith, word_within 5 c.args.s.now, c.unhex-n.ensures.half)
