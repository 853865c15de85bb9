-- `stages::usual::is_usual`: the text fits from the front as it fits from i on.
use Rattle.std.proofs.Common.{◌≡◌, drop}
use Rattle.stages.specs.Usual.{usual_shape, fits}
use Rattle.stages.proofs.usual.is_usual.Given as goal

abbrev pub invariant-loop-i : goal.invariant-loop-i
invariant-loop-i l = fits usual_shape l.text ≡ fits (drop l.i usual_shape) (drop l.i l.text)
