-- `words::tables::row_of`. The invariant: the rows from the index on answer as the table does.
use Rattle.std.proofs.Common.{◌≡◌, drop}
use Rattle.words.specs.Tables.{row_from}
use Rattle.words.proofs.tables.row_of.Given as goal

abbrev pub invariant-loop-row : goal.invariant-loop-row
invariant-loop-row g l = row_from l.word l.table ≡ row_from l.word (drop l.row-index l.table)
