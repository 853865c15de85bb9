-- The usual shape of a text, `0000-00-00 00:00:00` and what may follow: most texts have it, and each field has its place there.
use Rattle.std.specs.Prelude.{Bool, true, false, cond, ◌&&◌, ◌||◌, List, [], ◌∷◌, ℕ, eqb, length, get_or}
use Rattle.decimals.specs.Numbers.{is_digit}
use Rattle.fields.specs.Fields.{is_delimiter}
use Rattle.fields.specs.declared.Delimiter.TheVariants.{SpaceOrT, Point}

-- `0000-00-00 00:00:00`
unfoldable pub usual_shape : List ℕ
usual_shape =
    48 ∷ 48 ∷ 48 ∷ 48 ∷ 45 ∷ 48 ∷ 48 ∷ 45 ∷ 48 ∷ 48 ∷ 32 ∷ 48 ∷ 48 ∷ 58 ∷ 48 ∷ 48 ∷ 58 ∷ 48 ∷ 48 ∷ []

-- in a shape `0` (48) stands for any digit, the space (32) for what may follow the day, and any other byte for itself
unfoldable pub fits_byte : ℕ → ℕ → Bool
fits_byte b x = cond (eqb b 48) (is_digit x) (cond (eqb b 32) (is_delimiter SpaceOrT x) (eqb x b))

-- the text begins with bytes of the shape
unfoldable pub fits : List ℕ → List ℕ → Bool
fits [] s = true
fits (b ∷ shape) [] = false
fits (b ∷ shape) (x ∷ s) = fits_byte b x && fits shape s

-- a text of the usual shape: behind the seconds it ends, or a point follows
unfoldable pub is_usual : List ℕ → Bool
is_usual s = fits usual_shape s && (eqb (length s) 19 || is_delimiter Point (get_or s 19 0))
