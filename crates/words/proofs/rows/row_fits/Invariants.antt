-- `words::rows::row_fits`. The invariant: what is left is of the kinds that are left.
use Rattle.std.proofs.Common.{◌≡◌, drop}
use Rattle.words.specs.Places.{fits}
use Rattle.words.proofs.rows.row_fits.Given as goal

abbrev pub invariant-loop-kind : goal.invariant-loop-kind
invariant-loop-kind l = fits l.kinds l.tail l.s ≡ fits (drop l.kind-index l.kinds) l.tail l.left
