-- `fields::find`: the width is the place of the first delimiter.
use Rattle.std.proofs.Common.{◌≡◌, rules}
use Rattle.std.proofs.lemmas.Iterator.{YieldsList-from_slice}
use Rattle.std.proofs.lemmas.Iterator.Search.{position_from_yields_List}
use Rattle.std.specs.List.{position}
use Rattle.fields.specs.Fields.{is_delimiter}
use Rattle.fields.proofs.Widths.{width_is}
use Rattle.fields.proofs.find.Goals as goal
use borrow.Author.Tests.{tests}

pub returns-clause-value : goal.returns-clause-value
returns-clause-value c =
    let found : c.position.result ≡ position (is_delimiter c.args.delimiter) c.args.s.now =
    position_from_yields_List (is_delimiter c.args.delimiter) _ _ c.position.result c.position.ensures.ran (YieldsList-from_slice c.args.s.now cc) (λ x b q k. search (rules, tests)) in
    rw (width_is, ← found) c.unwrap_or.ensures
