-- `texts::Writer::put_natural`, which calls itself: the number is the measure.
use Rattle.texts.proofs.Writer.+put_natural.Given as goal

abbrev pub decreases-put_natural : goal.decreases-put_natural
decreases-put_natural l = l.n
