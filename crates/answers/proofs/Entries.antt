-- The answer of each kind of entry on counts, in the one form.
use mathlib.Core.Path.{◌≡◌, refl}
use mathlib.Core.List.{List, ◌++◌}
use Prim.Native.Nat.{ℕ}
use lib.IntN.{ℤ}
use Rattle.std.specs.Prelude.{Result}
use Rattle.std.specs.declared.cmp.Ordering.{Ordering}
use Rattle.errors.specs.Refusals.{of_date_time, of_count}
use Rattle.errors.specs.declared.refusal.Refusal as Code
use Rattle.errors.specs.declared.CountError.{CountError}
use Rattle.errors.specs.declared.DateTimeError.{DateTimeError}
use Rattle.seconds.specs.declared.UnixSeconds.{UnixSeconds}
use Rattle.durations.specs.declared.Duration.{Duration}
use Rattle.counts.specs.declared.TaiTime.{TaiTime}
use Rattle.counts.specs.Said.{pair, said_time, said_date_time, said_unix, said_duration, said_ordering}
use Rattle.texts.specs.Texts.{bytes, natural, integer}
use Rattle.answers.specs.Answers.{line, time_line, duration_line, order_text}
use Rattle.answers.specs.Said.{said_text}
use Rattle.answers.specs.declared.said.Said.{Said}
use Rattle.answers.specs.declared.said.Said.TheVariants.{Time, Unix, Lasts, Order}
use Rattle.answers.proofs.Handed.{Handed, told_as, said_line}

-- a timestamp in the one form, and its two numbers as they are written
abbrev pub as_time : TaiTime → Said
as_time t = Time t.secs t.nanos

abbrev time_text : ℤ × ℕ → List ℕ
time_text t = integer t.0 ++ (bytes " " ++ natural t.1)

pub time_said : (a : Result TaiTime CountError) (r : Result Said Code.Refusal) → Handed as_time (told_as of_count) a r → said_text r ≡ time_line (said_time a)
time_said = said_line pair time_text as_time of_count (λ t. refl)

pub date_said : (a : Result TaiTime DateTimeError) (r : Result Said Code.Refusal) → Handed as_time (told_as of_date_time) a r → said_text r ≡ time_line (said_date_time a)
date_said = said_line pair time_text as_time of_date_time (λ t. refl)

pub unix_said : (a : Result UnixSeconds CountError) (r : Result Said Code.Refusal) → Handed (λ u. Unix u.0) (told_as of_count) a r → said_text r ≡ line integer (said_unix a)
unix_said = said_line (λ u. u.0) integer (λ u. Unix u.0) of_count (λ u. refl)

pub duration_said : (a : Result Duration CountError) (r : Result Said Code.Refusal) → Handed (λ d. Lasts d.secs d.nanos) (told_as of_count) a r → said_text r ≡ duration_line (said_duration a)
duration_said = said_line (λ d. (d.secs, d.nanos)) (λ d. natural d.0 ++ (bytes " " ++ natural d.1)) (λ d. Lasts d.secs d.nanos) of_count (λ d. refl)

pub ordering_said : (a : Result Ordering CountError) (r : Result Said Code.Refusal) → Handed Order (told_as of_count) a r → said_text r ≡ line order_text (said_ordering a)
ordering_said = said_line (λ o. o) order_text Order of_count (λ o. refl)
