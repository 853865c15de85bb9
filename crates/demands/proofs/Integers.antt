-- The test for an i64, as the machine's range and as `omega` reads it.
use mathlib.Core.Path.{◌≡◌}
use mathlib.Core.Bool.{true}
use Prim.Native.Nat.{◌^◌}
use lib.IntN.{ℤ, pos, negsuc}
use mir.Syntax.{w64}
use mir.Val.{SFits}
use borrow.Author.Tests.{ltb-true}
use Rattle.integers.specs.Integers.{is_i64}

pub fits : (z : ℤ) → is_i64 z ≡ true → SFits w64 z
unfolding is_i64
fits (pos n) e = record { sfits = ltb-true n (2 ^ 63) e }
fits (negsuc n) e = record { sfits = ltb-true n (2 ^ 63) e }
