-- `texts::Writer::put_hex`: none, or two digits for each byte.
use Rattle.std.proofs.Common.{suc, sym, ◌∙◌, drop-cons, add-one, arith}
use lib.ListN.{drop_of_length-le}
use Rattle.texts.specs.Hex.{digit_pairs, hex_text}
use Rattle.texts.proofs.Puts.{pairs_length}
use Rattle.texts.proofs.Writer.put_hex.Goals as goal

pub returns-then-is_empty-clause-wrote : goal.returns-then-is_empty-clause-wrote
unfolding hex_text
returns-then-is_empty-clause-wrote c = rw (sym c.is_empty.ensures ∙ c.if-is_empty.true) c.put_byte.ensures

pub loop-byte-preserved : goal.loop-byte-preserved
unfolding digit_pairs
loop-byte-preserved c =
    let v = c.put_byte-in-loop-byte.ensures in
    let w = c.put_byte-in-loop-byte-2.ensures in
    record {
      place = omega (arith, v.put.place, w.put.place, c.loop-byte.invariant.place);
      size = w.size ∙ v.size ∙ c.loop-byte.invariant.size;
      to_come = c.loop-byte.invariant.to_come ∙ rw (drop-cons c.args.bytes.now c.loop-byte.byte-index 0 (omega arith), w.put.line, w.put.place, v.put.line, v.put.place, c.digit.ensures, c.digit-in-loop-byte.ensures, add-one c.loop-byte.self.at, add-one (suc c.loop-byte.self.at), add-one c.loop-byte.byte-index);
      same = w.same ∙ v.same ∙ c.loop-byte.invariant.same;
    }

pub returns-clause-wrote : goal.returns-clause-wrote
unfolding hex_text digit_pairs
returns-clause-wrote c =
    let s = c.args.bytes.now in
    let e = sym c.is_empty.ensures ∙ c.if-is_empty.false in
    let i = c.loop-byte.invariant in
    record {
      put = record { line = rw e (sym (i.to_come ∙ rw (drop_of_length-le s c.loop-byte-test.false))); place = rw e (omega (arith, pairs_length s)) };
      size = i.size;
      same = i.same;
    }
