-- A width and a value that can be written.
use Rattle.std.specs.Prelude.{ℕ, ◌^◌, ◌≤◌, ◌<◌}

pub record Bounded (w n : ℕ) : Type 0 where
  pub width : w ≤ 12
  pub value : n < 10 ^ 18
