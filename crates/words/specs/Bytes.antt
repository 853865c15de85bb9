-- Where a byte stands first in a list of bytes.
use Rattle.std.specs.Prelude.{List, ℕ, ◌==◌}
use Rattle.std.specs.List.{position_or_len}

-- how many bytes stand before the first that is b: all where there is none
unfoldable pub index_of : ℕ → List ℕ → ℕ
index_of b s = position_or_len (λ x. x == b) s
