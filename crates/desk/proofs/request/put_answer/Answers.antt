-- `desk::request::put_answer`: the verb, its row, its answer.
use Rattle.std.proofs.Common.{◌≡◌, Option, arith}
use Rattle.desk.specs.declared.verbs.Verb.{Verb}
use Rattle.desk.specs.Answers.{answer_text}
use Rattle.desk.proofs.Answered.{answer_too_long}
use Rattle.desk.proofs.Table.{of_verb, answer_by_lem}
use Rattle.desk.proofs.request.put_answer.Goals as goal
use Rattle.desk.proofs.request.put_answer.Goals.{After-verb_of}

-- the answer, by the verb that was found
by : (c : After-verb_of) {verb : Option Verb} → c.verb_of.result ≡ verb → answer_text c.args.request.now ≡ of_verb c.skip-s.result.now verb
by c e =
    let found = rw c.word_length-n.ensures.value at c.verb_of.ensures in
    rw (c.skip-s.ensures, c.word_length-n.ensures.value, ← e) (answer_by_lem _ (omega arith) found)

pub returns-then-request-gt65535-clause-wrote : goal.returns-then-request-gt65535-clause-wrote
returns-then-request-gt65535-clause-wrote c = rw (answer_too_long _ c.if-request-gt65535.true) c.put.ensures

pub returns-in_default-clause-wrote : goal.returns-in_default-clause-wrote
returns-in_default-clause-wrote c = rw (by ((goal.at.returns-in_default-clause-wrote c).After-verb_of) c.in_default.is) c.put-in_default.ensures

pub returns-then-not-row_fits-clause-wrote : goal.returns-then-not-row_fits-clause-wrote
returns-then-not-row_fits-clause-wrote c =
    rw (by ((goal.at.returns-then-not-row_fits-clause-wrote c).After-verb_of) c.in-Some.is, ← c.kinds.ensures, ← c.tail.ensures, ← c.row_fits.ensures, c.if-not-row_fits.true) c.put-then-not-row_fits.ensures

pub returns-clause-wrote : goal.returns-clause-wrote
returns-clause-wrote c =
    rw (by ((goal.at.returns-clause-wrote c).After-verb_of) c.in-Some.is, ← c.kinds.ensures, ← c.tail.ensures, ← c.row_fits.ensures, c.if-not-row_fits.false) c.put_verb.ensures.wrote
