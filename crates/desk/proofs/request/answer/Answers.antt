-- `desk::request::answer`: where there is room, the line is put in front, and its LF behind it (`wrote_front`).
use Rattle.std.proofs.Common.{sym, ◌∙◌, arith, rules}
use Rattle.texts.proofs.Wrotes.{wrote_on, wrote_front}
use Rattle.desk.proofs.Answered.{answered_front, answered_none}
use Rattle.desk.proofs.request.answer.Goals as goal

pub returns-then-out-saturating_add : goal.returns-then-out-saturating_add
returns-then-out-saturating_add c = let a = c.saturating_add.ensures in sym (answered_none _ _ (omega (arith, a)))

pub returns : goal.returns
returns c =
    let new = c.new-line.ensures in
    let k = wrote_on c.put_answer.ensures.wrote c.put.ensures in
    wrote_front k new.line new.at (omega (arith, k.put.place)) (search (rules, sym (k.same ∙ new.same))) ∙ sym (answered_front _ _ (omega arith))
