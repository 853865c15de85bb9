-- What printing a timestamp answers, and what the line is then.
use Rattle.std.specs.Prelude.{cond, List, [], ℕ, ltb, ℤ, ◌+ℤ◌, Option}
use Rattle.errors.specs.Refusals.{Outcome, refuses, refusal}
use Rattle.moments.specs.declared.Moment.{Moment}
use Rattle.moments.specs.Moments.{moment_at}
use Rattle.printer.specs.declared.Instant.{Instant}
use Rattle.printer.specs.Text.{text}
use Rattle.printer.specs.Lent.{answer, line_after}

-- a moment and the nanoseconds since its second began
abbrev pub instant : Moment → ℕ → Instant
instant m nanos = record { moment = m; nanos = nanos }

-- the text of a timestamp over an epoch
unfoldable pub time_text : ℤ → ℕ → ℤ → Option ℕ → List ℕ
time_text secs nanos epoch precision = text (instant (moment_at (secs +ℤ epoch)) nanos) precision

-- 11 goes first, and leaves the line; then 12, 13, or the text in its place
unfoldable pub displayed : ℤ → ℕ → ℤ → Option ℕ → List ℕ → ℕ → Outcome ℕ × List ℕ
displayed secs nanos epoch precision line at =
    cond (ltb nanos 1000000000)
    (answer line at (time_text secs nanos epoch precision), line_after line at (time_text secs nanos epoch precision))
    (refuses (refusal 11 []), line)
