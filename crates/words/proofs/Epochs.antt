-- The epochs by their names.
use mathlib.Core.Path.{◌≡◌, refl}
use mathlib.Core.Bool.{◌||◌}
use mathlib.Core.List.{List}
use Prim.Native.Nat.{ℕ}
use lib.IntN.{ℤ}
use Rattle.std.specs.Prelude.{Option, Some, None}
use Rattle.std.specs.Option.{is_some}
use Rattle.words.specs.declared.tables.NamedEpoch.{NamedEpoch}
use Rattle.words.specs.Tables.{epoch_names, start_of, epoch_row}
use Rattle.words.specs.Kinds.{epoch_of, meaning}
use Rattle.words.specs.declared.kinds.Kind.TheVariants.{Epoch, I64}
use Rattle.words.proofs.ByRow.{by_word_lem}

-- what an epoch with a name starts at, or another where there is none
abbrev pub epoch_or : Option ℤ → Option NamedEpoch → Option ℤ
epoch_or other (Some name) = Some (start_of name)
epoch_or other None = other

pub epoch_by : (word : List ℕ) → epoch_or (meaning I64 word) (epoch_row word) ≡ meaning Epoch word
unfolding epoch_row epoch_of
epoch_by word = by_word_lem (epoch_or (meaning I64 word)) word None epoch_names

named : (n : Option NamedEpoch) (z : Option ℤ) → (is_some n || is_some z) ≡ is_some (epoch_or z n)
named (Some name) z = refl
named None z = refl

-- a word says an epoch if it is a name or a number
pub epoch_meant : (word : List ℕ) → (is_some (epoch_row word) || is_some (meaning I64 word)) ≡ is_some (meaning Epoch word)
epoch_meant word = rw (← epoch_by word) (named (epoch_row word) (meaning I64 word))
