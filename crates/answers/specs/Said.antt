-- What an answer says in the one form that the code writes from.
use Rattle.std.specs.Prelude.{List, ℕ, Result, Ok, Err}
use Rattle.errors.specs.Refusals.{gives}
use Rattle.errors.specs.Told.{told}
use Rattle.errors.specs.declared.refusal.Refusal.{Refusal}
use Rattle.texts.specs.Texts.{natural, integer}
use Rattle.answers.specs.Answers.{line, time_line, duration_line, order_text}
use Rattle.answers.specs.declared.said.Said.{Said}
use Rattle.answers.specs.declared.said.Said.TheVariants.{Time, Unix, Lasts, Number, Order}

abbrev pub said_text : Result Said Refusal → List ℕ
said_text (Ok (Time secs nanos)) = time_line (gives (secs, nanos))
said_text (Ok (Unix secs)) = line integer (gives secs)
said_text (Ok (Lasts secs nanos)) = duration_line (gives (secs, nanos))
said_text (Ok (Number n)) = line natural (gives n)
said_text (Ok (Order order)) = line order_text (gives order)
said_text (Err r) = line natural (told r)
