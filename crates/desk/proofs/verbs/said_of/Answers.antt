-- `desk::verbs::said_of`: each verb's entry on its words, its answer in the one form.
use Rattle.std.proofs.Common.{ap, ◌∙◌, w32, w64, SFits, to_z-of_z, rules}
use Rattle.texts.specs.Texts.{integer}
use Rattle.answers.specs.Answers.{line, time_line}
use Rattle.answers.proofs.Entries.{time_said, date_said, unix_said, duration_said, ordering_said}
use Rattle.desk.specs.Verbs.{answer_of}
use Rattle.desk.proofs.Entries.{read_said}
use Rattle.desk.proofs.verbs.said_of.Goals as goal

pub returns-in-New : goal.returns-in-New
unfolding answer_of
returns-in-New c =
    let f : SFits w64 c.value_at.result = search rules in
    rw (c.in-New.is, ← c.value_at.ensures, ← c.value_at-in-New.ensures) (time_said c.new.result c.answered.result c.answered.ensures ∙ ap time_line (simp to_z-of_z at c.new.ensures))

pub returns-in-Date : goal.returns-in-Date
unfolding answer_of
returns-in-Date c =
    let f : SFits w32 c.value_at-in-Date.result = search rules in
    rw (c.in-Date.is, ← c.epoch_word.ensures, ← c.value_at-in-Date.ensures, ← c.value_at-in-Date-2.ensures, ← c.value_at-in-Date-3.ensures, ← c.value_at-in-Date-4.ensures, ← c.value_at-in-Date-5.ensures, ← c.value_at-in-Date-6.ensures, ← c.value_at-in-Date-7.ensures) (date_said c.try_from_date_time.result c.answered-in-Date.result c.answered-in-Date.ensures ∙ ap time_line (simp to_z-of_z at c.try_from_date_time.ensures))

pub returns-in-Unix : goal.returns-in-Unix
unfolding answer_of
returns-in-Unix c =
    let f : SFits w64 c.value_at-in-Unix.result = search rules in
    let g : SFits w64 c.value_at-in-Unix-3.result = search rules in
    rw (c.in-Unix.is, ← c.epoch_word-in-Unix.ensures, ← c.value_at-in-Unix.ensures, ← c.value_at-in-Unix-2.ensures, ← c.value_at-in-Unix-3.ensures) (time_said c.try_from_unix_timestamp.result c.answered-in-Unix.result c.answered-in-Unix.ensures ∙ ap time_line (simp to_z-of_z at c.try_from_unix_timestamp.ensures))

pub returns-in-ToUnix : goal.returns-in-ToUnix
unfolding answer_of
returns-in-ToUnix c =
    let f : SFits w64 c.value_at-in-ToUnix.result = search rules in
    rw (c.in-ToUnix.is, ← c.epoch_word-in-ToUnix.ensures, ← c.time_at.ensures.secs_value, ← c.time_at.ensures.nanos_value, ← c.value_at-in-ToUnix.ensures) (unix_said c.as_unix_secs.result c.answered-in-ToUnix.result c.answered-in-ToUnix.ensures ∙ ap (line integer) (simp to_z-of_z at c.as_unix_secs.ensures))

pub returns-in-Epoch : goal.returns-in-Epoch
unfolding answer_of
returns-in-Epoch c =
    rw (c.in-Epoch.is, ← c.epoch_word-in-Epoch.ensures, ← c.epoch_word-in-Epoch-2.ensures, ← c.time_at-in-Epoch.ensures.secs_value, ← c.time_at-in-Epoch.ensures.nanos_value, ← c.to_tai_time.ensures) (time_said c.to_tai_time.result c.answered-in-Epoch.result c.answered-in-Epoch.ensures)

pub returns-in-Add : goal.returns-in-Add
unfolding answer_of
returns-in-Add c =
    rw (c.in-Add.is, ← c.time_at-in-Add.ensures.secs_value, ← c.time_at-in-Add.ensures.nanos_value, ← c.duration_at.ensures.secs_value, ← c.duration_at.ensures.nanos_value, ← c.checked_add.ensures) (time_said c.checked_add.result c.answered-in-Add.result c.answered-in-Add.ensures)

pub returns-in-Sub : goal.returns-in-Sub
unfolding answer_of
returns-in-Sub c =
    rw (c.in-Sub.is, ← c.time_at-in-Sub.ensures.secs_value, ← c.time_at-in-Sub.ensures.nanos_value, ← c.duration_at-in-Sub.ensures.secs_value, ← c.duration_at-in-Sub.ensures.nanos_value, ← c.checked_sub.ensures) (time_said c.checked_sub.result c.answered-in-Sub.result c.answered-in-Sub.ensures)

pub returns-in-Since : goal.returns-in-Since
unfolding answer_of
returns-in-Since c =
    rw (c.in-Since.is, ← c.time_at-in-Since.ensures.secs_value, ← c.time_at-in-Since.ensures.nanos_value, ← c.time_at-in-Since-2.ensures.secs_value, ← c.time_at-in-Since-2.ensures.nanos_value, ← c.checked_duration_since.ensures) (duration_said c.checked_duration_since.result c.answered-in-Since.result c.answered-in-Since.ensures)

pub returns-in-Compare : goal.returns-in-Compare
unfolding answer_of
returns-in-Compare c =
    rw (c.in-Compare.is, ← c.time_at-in-Compare.ensures.secs_value, ← c.time_at-in-Compare.ensures.nanos_value, ← c.time_at-in-Compare-2.ensures.secs_value, ← c.time_at-in-Compare-2.ensures.nanos_value, ← c.cmp.ensures) (ordering_said c.cmp.result c.answered-in-Compare.result c.answered-in-Compare.ensures)

pub returns-in-Read : goal.returns-in-Read
unfolding answer_of
returns-in-Read c =
    rw (c.in-Read.is, ← c.epoch_word-in-Read.ensures, ← c.rest_at.ensures, ← c.skip.ensures, ← c.from_str.ensures) (read_said c.from_str.result c.answered-in-Read.result c.answered-in-Read.ensures)
