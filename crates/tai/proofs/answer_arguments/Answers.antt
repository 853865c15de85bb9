-- `tai::answer_arguments`: what is answered lies within out.
use Rattle.std.proofs.Common.{length-take, arith}
use Rattle.desk.proofs.Answered.{answered_fits}
use Rattle.tai.proofs.answer_arguments.Goals as goal

pub slice_bounds-write-end : goal.slice_bounds-write-end
slice_bounds-write-end g c =
    let k = answered_fits _ _ c.answer-m.ensures c.answer-m.auto.out in
    omega (arith, c.answer-m.auto.out)

pub slice_bounds-write-end-2 : goal.slice_bounds-write-end-2
slice_bounds-write-end-2 g c =
    let k = answered_fits _ _ c.answer-m.ensures c.answer-m.auto.out in
    rw length-take (omega (arith, c.answer-m.auto.out))
