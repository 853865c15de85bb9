-- `words::rows::is_good`: each kind by what a word says (`good_of`).
use Rattle.std.proofs.Common.{◌∙◌}
use Rattle.words.proofs.Epochs.{epoch_meant}
use Rattle.words.proofs.Places.{good_of, precision_meant, hex_meant}
use Rattle.words.proofs.rows.is_good.Goals as goal

pub returns-then-is_some : goal.returns-then-is_some
returns-then-is_some c = good_of _ c.in-Epoch.is c.field_word-word.ensures (rw (← epoch_meant c.field_word-word.result.now, ← c.epoch_row.ensures, ← c.is_some.ensures, c.if-is_some.true))

pub returns-else-is_some : goal.returns-else-is_some
returns-else-is_some c = good_of _ c.in-Epoch.is c.field_word-word.ensures (rw (← epoch_meant c.field_word-word.result.now, ← c.epoch_row.ensures, ← c.is_some.ensures, c.if-is_some.false, ← c.from_word.ensures) c.is_some-else-is_some.ensures)

pub returns-in-I64 : goal.returns-in-I64
returns-in-I64 c = good_of _ c.in-I64.is c.field_word-word.ensures (rw c.from_word-in-I64.ensures at c.is_some-in-I64.ensures)

pub returns-in-I32 : goal.returns-in-I32
returns-in-I32 c = good_of _ c.in-I32.is c.field_word-word.ensures (rw c.from_word-in-I32.ensures at c.is_some-in-I32.ensures)

pub returns-in-U64 : goal.returns-in-U64
returns-in-U64 c = good_of _ c.in-U64.is c.field_word-word.ensures (rw c.from_word-in-U64.ensures at c.is_some-in-U64.ensures)

pub returns-in-U32 : goal.returns-in-U32
returns-in-U32 c = good_of _ c.in-U32.is c.field_word-word.ensures (rw c.from_word-in-U32.ensures at c.is_some-in-U32.ensures)

pub returns-in-U8 : goal.returns-in-U8
returns-in-U8 c = good_of _ c.in-U8.is c.field_word-word.ensures (rw c.from_word-in-U8.ensures at c.is_some-in-U8.ensures)

pub returns-then-eq : goal.returns-then-eq
returns-then-eq c = good_of _ c.in-Precision.is c.field_word-word.ensures (rw (← precision_meant c.field_word-word.result.now, ← rw c.as_slice.ensures at c.eq.ensures, c.if-eq.true))

pub returns-else-eq : goal.returns-else-eq
returns-else-eq c = good_of _ c.in-Precision.is c.field_word-word.ensures (rw (← precision_meant c.field_word-word.result.now, ← rw c.as_slice.ensures at c.eq.ensures, c.if-eq.false, ← c.from_word-else-eq.ensures) c.is_some-else-eq.ensures)

pub returns-in-Hex : goal.returns-in-Hex
returns-in-Hex c = good_of _ c.in-Hex.is c.field_word-word.ensures (c.is_hex.ensures ∙ hex_meant c.field_word-word.result.now)
