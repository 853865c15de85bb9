-- A year is written behind `-`, or behind nothing.
use mathlib.Core.Path.{◌≡◌, refl}
use mathlib.Core.Bool.{Bool, true, false, cond}
use mathlib.Core.List.{List, [], ◌∷◌, ◌++◌}
use Prim.Native.Nat.{ℕ}
use lib.IntN.{ℤ, pos, nat_abs}
use lib.Signed.{lt_z}
use Rattle.std.specs.Bool.{then_some}
use Rattle.std.specs.List.{cons_option}
use Rattle.digits.specs.Digits.{digits, width}
use Rattle.printed_parts.specs.Text.{dash, year_text}

pub year_is : (y : ℤ) → cons_option (then_some (lt_z y (pos 0)) dash) (digits (width (nat_abs y)) (nat_abs y)) ≡ year_text y
unfolding year_text
year_is y = go (lt_z y (pos 0)) (digits (width (nat_abs y)) (nat_abs y))
  where
    go : (b : Bool) (s : List ℕ) → cons_option (then_some b dash) s ≡ cond b (dash ∷ []) [] ++ s
    go true s = refl
    go false s = refl
