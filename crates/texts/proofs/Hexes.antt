-- The sixteen digits have the values 0 to 15.
use mathlib.Core.List.{[], ◌∷◌, map}
use mathlib.Core.Path.{◌≡◌, refl}
use Rattle.texts.specs.Texts.{bytes}
use Rattle.texts.specs.Hex.{digit_value}

pub values : map digit_value (bytes "0123456789abcdef") ≡ 0 ∷ 1 ∷ 2 ∷ 3 ∷ 4 ∷ 5 ∷ 6 ∷ 7 ∷ 8 ∷ 9 ∷ 10 ∷ 11 ∷ 12 ∷ 13 ∷ 14 ∷ 15 ∷ []
unfolding digit_value
values = refl
