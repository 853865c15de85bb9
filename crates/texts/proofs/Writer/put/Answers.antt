-- `texts::Writer::put`: a part written is one text set.
use Rattle.std.proofs.Common.{refl}
use Rattle.std.proofs.Math.Seq.{length-sets}
use Rattle.texts.proofs.Puts.{put_part}
use Rattle.texts.proofs.Writer.put.Goals as goal

pub returns : goal.returns
returns c =
    let w = c.args.self.now in
    let p = put_part w.line.now w.at c.args.text.now c.requires c.copy_from_slice.ensures.after in
    record { put = p; size = rw p.line (length-sets w.line.now w.at c.args.text.now); same = refl }
