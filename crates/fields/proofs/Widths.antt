-- The width of a field is the place of its first delimiter.
use Rattle.std.proofs.Common.{◌≡◌, refl, ◌∙◌, cond, Some, None, List, ℕ, ◌≤◌, length, nat_lt, arith, unwrap_or, rules}
use Rattle.std.specs.List.{position}
use Rattle.std.proofs.lemmas.Grind.{common_steps}
use Rattle.std.proofs.lemmas.List.Recursion.{is_position_or_len}
use Rattle.std.proofs.lemmas.List.Sums.{prefix_len-le-length}
use Rattle.fields.specs.Fields.{is_delimiter, width}
use Rattle.fields.specs.declared.Delimiter.{Delimiter}

first : (n l : ℕ) → n ≤ l → n ≡ unwrap_or (cond (nat_lt n l) (Some n) None) l
first n l h = grind (arith, common_steps)

pub width_is : (d : Delimiter) (s : List ℕ) → width d s ≡ unwrap_or (position (is_delimiter d) s) (length s)
unfolding width
width_is d s = is_position_or_len (width d) (is_delimiter d) refl (λ x xs. search rules) s ∙ first _ _ (prefix_len-le-length _ s)
