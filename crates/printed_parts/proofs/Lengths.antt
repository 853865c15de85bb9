-- How long a part is, and the longest year and fraction.
use mathlib.Core.Path.{◌≡◌, sym, ◌∙◌}
use mathlib.Core.Bool.{Bool, true, false, cond}
use mathlib.Core.List.{List, [], ◌∷◌}
use Prim.Native.Nat.{ℕ, suc, ◌+◌, ◌^◌, ◌<◌, ◌≤◌}
use native.Mathlib.Omega.{arith}
use lib.Dec.{eqb}
use lib.IntN.{ℤ, pos, nat_abs}
use lib.ListN.{length, take, length-append, length-take}
use lib.Signed.{lt_z}
use Rattle.std.specs.Prelude.{Option, Some, None}
use mir.Val.{bool_byte}
use Rattle.std.specs.Option.{is_some}
use Rattle.std.specs.List.{cons_option}
use Rattle.digits.specs.Digits.{digits, width}
use Rattle.digits.proofs.Decimal.{digits_length}
use Rattle.digits.proofs.Width.{width_le}
use Rattle.printed_parts.specs.declared.part.Part.{Part}
use Rattle.printed_parts.specs.Text.{dash, year_text, unless_last, trim, pointed, fraction_text}
use Rattle.printed_parts.specs.Parts.{part_text}

pub part_length : (p : Part) → bool_byte (is_some p.mark) + p.width ≡ length (part_text p)
unfolding part_text
part_length p = go p.mark
  where
    go : (m : Option ℕ) → bool_byte (is_some m) + p.width ≡ length (cons_option m (digits p.width p.value))
    go None = omega (arith, digits_length p.width p.value)
    go (Some x) = omega (arith, digits_length p.width p.value)

pub marked_length : (p : Part) {mark : ℕ} → p.mark ≡ Some mark → length (part_text p) ≡ p.width + 1
marked_length p e = sym (part_length p) ∙ rw e (omega arith)

pub bare_length : (p : Part) → p.mark ≡ None → length (part_text p) ≡ p.width
bare_length p e = sym (part_length p) ∙ rw e (omega arith)

sign_length : (b : Bool) → length (cond b (dash ∷ []) []) ≤ 1
sign_length true = omega arith
sign_length false = omega arith

pub year_bound : (y : ℤ) → nat_abs y < 10 ^ 12 → length (year_text y) ≤ 13
unfolding year_text
year_bound y h =
    let n = nat_abs y in
    omega (arith, length-append (cond (lt_z y (pos 0)) (dash ∷ []) []) (digits (width n) n), sign_length (lt_z y (pos 0)), digits_length (width n) n, width_le 12 n (omega arith) h (omega arith))

unless_last_length : (x : ℕ) (s : List ℕ) → length (unless_last x s) ≤ suc (length s)
unless_last_length x [] = go (eqb x 48)
  where
    go : (b : Bool) → length (cond b [] (x ∷ [])) ≤ 1
    go true = omega arith
    go false = omega arith
unless_last_length x (y ∷ s) = omega arith

trim_length : (s : List ℕ) → length (trim s) ≤ length s
unfolding trim
trim_length [] = omega arith
trim_length (x ∷ s) = omega (arith, unless_last_length x (trim s), trim_length s)

pointed_length : (s : List ℕ) → length (pointed s) ≤ suc (length s)
pointed_length [] = omega arith
pointed_length (x ∷ s) = omega arith

pub fraction_bound : (p : Option ℕ) (n : ℕ) → length (fraction_text p n) ≤ 10
unfolding fraction_text
fraction_bound None n =
    let d = digits 9 n in
    omega (arith, pointed_length (trim d), trim_length d, digits_length 9 n)
fraction_bound (Some k) n =
    let d = digits 9 n in
    omega (arith, pointed_length (take k d), length-take k d, digits_length 9 n)
