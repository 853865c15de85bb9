-- `words::words::rest_at`: one field more (`rest_next`).
use Rattle.std.proofs.Common.{refl, sym}
use Rattle.words.specs.Words.{rest_at}
use Rattle.words.proofs.Places.{rest_next}
use Rattle.words.proofs.words.rest_at.Goals as goal

pub loop-init : goal.loop-init
unfolding rest_at
loop-init c = refl

pub loop-preserved : goal.loop-preserved
loop-preserved c = rw (c.skip-left.ensures, c.field_length.ensures.value, c.loop.invariant) (sym (rest_next c.loop.counter c.args.s.now))
