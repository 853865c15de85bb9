-- `entries::given::epoch_word`: what the name stands for, or the number.
use Rattle.std.proofs.Common.{◌≡◌, sym, ap, ◌∙◌, pos, Option, w64, SFits, to_z-of_z, rules}
use Rattle.std.specs.Option.{unwrap_or}
use Rattle.words.specs.Kinds.{meaning}
use Rattle.words.specs.declared.kinds.Kind.TheVariants.{Epoch, I64}
use Rattle.words.specs.declared.tables.NamedEpoch.{NamedEpoch}
use Rattle.words.specs.Words.{word_at}
use Rattle.words.specs.Tables.{epoch_row}
use Rattle.words.specs.Places.{value}
use Rattle.words.proofs.Epochs.{epoch_or, epoch_by}
use Rattle.entries.proofs.given.epoch_word.Goals as goal
use Rattle.entries.proofs.given.epoch_word.Goals.{After-epoch_row}

-- the word is worth the epoch that was found, and itself where none was
found : (c : After-epoch_row) {n : Option NamedEpoch} → c.epoch_row.result ≡ n → let word = word_at c.args.i c.args.s.now in unwrap_or (epoch_or (meaning I64 word) n) (pos 0) ≡ value Epoch c.args.i c.args.s.now
found c e =
    let word = word_at c.args.i c.args.s.now in
    ap (λ z. unwrap_or z (pos 0)) (ap (epoch_or (meaning I64 word)) (sym e ∙ c.epoch_row.ensures ∙ ap epoch_row c.word_at.ensures) ∙ epoch_by word)

pub returns-in-Some : goal.returns-in-Some
returns-in-Some c = c.named.ensures ∙ found (goal.at.returns-in-Some c).After-epoch_row c.in-Some.is

pub returns-in-None : goal.returns-in-None
returns-in-None c =
    let f : SFits w64 c.value_at.result = search rules in
    to_z-of_z {w = w64} f ∙ c.value_at.ensures ∙ found (goal.at.returns-in-None c).After-epoch_row c.in-None.is
