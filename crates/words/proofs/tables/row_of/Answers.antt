-- `words::tables::row_of`: row by row.
use Rattle.std.proofs.Common.{sym, ◌∙◌, drop-cons, add-one}
use lib.ListN.{drop_of_length-le}
use Rattle.words.specs.Tables.{row_from}
use Rattle.words.proofs.tables.row_of.Goals as goal

pub returns-then-eq : goal.returns-then-eq
unfolding row_from
returns-then-eq g c =
    sym (c.loop-row.invariant ∙ rw (drop-cons c.args.table.now c.loop-row.row-index c.row-item.result c.loop-row-test.true, ← c.row-item.is, ← c.eq.ensures, c.if-eq.true))

pub loop-row-preserved : goal.loop-row-preserved
unfolding row_from
loop-row-preserved g c =
    c.loop-row.invariant ∙ rw (drop-cons c.args.table.now c.loop-row.row-index c.row-item.result c.loop-row-test.true, ← c.row-item.is, ← c.eq.ensures, c.if-eq.false, add-one)

pub returns : goal.returns
unfolding row_from
returns g c = sym (c.loop-row.invariant ∙ rw (drop_of_length-le c.args.table.now c.loop-row-test.false))
