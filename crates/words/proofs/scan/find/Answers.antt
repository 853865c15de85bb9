-- `words::scan::find`: the place that `memchr` found is the first, or all bytes where it found none.
use Rattle.std.proofs.Common.{◌≡◌, ℕ, List, Option, Some, None, length, sym, ◌∙◌, arith}
use Rattle.std.specs.Option.{unwrap_or}
use Rattle.std.proofs.lemmas.Bool.{false_from_ne_true}
use Rattle.std.proofs.lemmas.List.Sums.{position_or_len_is}
use Rattle.memchr.specs.Find.{IsFirstByte, is_byte}
use Rattle.words.specs.Bytes.{index_of}
use Rattle.words.proofs.scan.find.Goals as goal

first : (b : ℕ) (s : List ℕ) (found : Option ℕ) → IsFirstByte (is_byte b) s found → unwrap_or found (length s) ≡ index_of b s
unfolding index_of
first b s (Some i) h = sym (position_or_len_is _ s i 0 (omega (arith, h.0.high)) (λ j l. false_from_ne_true _ (h.0.before j (omega arith) l)) (λ l. h.1))
first b s None h = sym (position_or_len_is _ s (length s) 0 (omega arith) (λ j l. false_from_ne_true _ (h j (omega arith) l)) (λ l. absurd (omega arith)))

pub returns-clause-value : goal.returns-clause-value
returns-clause-value c = c.unwrap_or.ensures ∙ first c.args.byte c.args.s.now c.memchr.result c.memchr.ensures
