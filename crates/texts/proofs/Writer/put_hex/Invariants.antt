-- `texts::Writer::put_hex`. The invariant: the pairs of the bytes that are left are still to be written.
use Rattle.std.proofs.Common.{◌≡◌, ◌+◌, ◌*◌, drop, length}
use Rattle.std.proofs.lemmas.List.Edits.{sets}
use Rattle.texts.specs.Hex.{digit_pairs}
use Rattle.texts.proofs.Writer.put_hex.Given as goal

abbrev pub invariant-loop-byte : goal.invariant-loop-byte
invariant-loop-byte l = record {
  place : l.self.at ≡ l.fn.self.at + 2 * l.byte-index;
  size : length l.self.line.now ≡ length l.fn.self.line.now;
  to_come : sets l.fn.self.line.now l.fn.self.at (digit_pairs l.bytes) ≡ sets l.self.line.now l.self.at (digit_pairs (drop l.byte-index l.bytes));
  same : l.self.line.ghost_name ≡ l.fn.self.line.ghost_name;
}
