-- `texts::hex::unhex`. The invariant: the bytes of the digits before i stand in front.
use Rattle.std.proofs.Common.{◌≡◌, ◌++◌, ◌*◌, take, drop}
use Rattle.texts.specs.Hex.{hex_bytes}
use Rattle.texts.proofs.hex.unhex.Given as goal

abbrev pub invariant-loop-n : goal.invariant-loop-n
invariant-loop-n l =
    hex_bytes l.hex ≡ take l.n l.bytes ++ hex_bytes (drop (2 * l.n) l.hex)
