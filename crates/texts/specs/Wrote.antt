-- What a writer has written.
use Rattle.std.specs.Prelude.{List, ℕ, ◌≡◌, length}
use Rattle.texts.specs.Texts.{Put}
use Rattle.texts.specs.declared.Writer.{Writer}

-- a text was put at a writer's place, and the writer stands behind it in the same line
pub record Wrote (old : Writer) (text : List ℕ) (new : Writer) : Type 0 where
  pub put : Put old.line.now old.at text new.line.now new.at
  pub size : length new.line.now ≡ length old.line.now
  pub same : new.line.ghost_name ≡ old.line.ghost_name
