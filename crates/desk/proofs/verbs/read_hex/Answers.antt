-- `desk::verbs::read_hex`: the bytes of HEX are read.
use Rattle.std.proofs.Common.{ap, length, arith}
use Rattle.words.proofs.Places.{hex_value}
use Rattle.words.proofs.Splits.{word_within}
use Rattle.desk.specs.Verbs.{answer_of}
use Rattle.desk.proofs.Entries.{read_said}
use Rattle.desk.proofs.verbs.read_hex.Goals as goal

pub unhex-n-requires : goal.unhex-n-requires
unhex-n-requires c = let e = ap length c.word_at.ensures in omega (arith, word_within 1 c.args.s.now)

pub returns : goal.returns
unfolding answer_of
returns c =
    rw (← c.epoch_word.ensures, ← hex_value 1 _, ← c.word_at.ensures, ← c.unhex-n.ensures.front, ← c.from_str.ensures) (read_said c.from_str.result c.answered.result c.answered.ensures)
