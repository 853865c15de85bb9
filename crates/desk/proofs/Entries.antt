-- The answers of the printer and of the reader, in the one form.
use mathlib.Core.Path.{◌≡◌, refl, ap, ◌∙◌}
use Prim.Native.Nat.{ℕ}
use Rattle.std.specs.Prelude.{Result, Ok, Err}
use Rattle.errors.specs.Refusals.{of_parse, of_print}
use Rattle.errors.specs.Told.{told}
use Rattle.errors.specs.declared.refusal.Refusal as Code
use Rattle.errors.specs.declared.ParseDateTimeError.{ParseDateTimeError}
use Rattle.errors.specs.declared.ParseDateTimeError.TheVariants.{MissingField, InvalidFieldWidth, InvalidFieldValue, RangeError}
use Rattle.errors.specs.declared.PrintError.{PrintError}
use Rattle.counts.specs.declared.TaiTime.{TaiTime}
use Rattle.reader.specs.Stamp.{said_read}
use Rattle.printer.specs.Lent.{said}
use Rattle.texts.specs.Texts.{natural}
use Rattle.answers.specs.Answers.{line, time_line}
use Rattle.answers.specs.Said.{said_text}
use Rattle.answers.specs.declared.said.Said.{Said}
use Rattle.answers.specs.declared.said.Said.TheVariants.{Number}
use Rattle.answers.proofs.Handed.{Handed, told_as, said_line}
use Rattle.answers.proofs.Entries.{as_time}

pub length_said : (a : Result ℕ PrintError) (r : Result Said Code.Refusal) → Handed Number (told_as of_print) a r → said_text r ≡ line natural (said a)
length_said = said_line (λ n. n) natural Number of_print (λ n. refl)

-- what a text's error says, whatever would have been given
parse_line : (e : ParseDateTimeError) → line natural (of_parse e) ≡ time_line (of_parse e)
parse_line MissingField = refl
parse_line InvalidFieldWidth = refl
parse_line InvalidFieldValue = refl
parse_line (RangeError e) = refl

pub read_said : (a : Result TaiTime ParseDateTimeError) (r : Result Said Code.Refusal) → Handed as_time (λ e x. told {A = ℕ} x ≡ of_parse e) a r → said_text r ≡ time_line (said_read a)
read_said (Ok t) (Ok s) h = ap (λ s. said_text (Ok s)) h
read_said (Ok t) (Err x) h = absurd h
read_said (Err e) (Ok s) h = absurd h
read_said (Err e) (Err x) h = ap (line natural) h ∙ parse_line e
