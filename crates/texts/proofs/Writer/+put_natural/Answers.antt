-- `texts::Writer::put_natural`: the digits of the tenth, and the last one (`natural_one`, `natural_more`).
use Rattle.std.proofs.Common.{arith}
use Rattle.texts.proofs.Puts.{natural_one, natural_more}
use Rattle.texts.proofs.Wrotes.{wrote_on}
use Rattle.texts.proofs.Writer.+put_natural.Goals as goal

pub returns-then-n-lt10-clause-wrote : goal.returns-then-n-lt10-clause-wrote
returns-then-n-lt10-clause-wrote t c = rw (natural_one c.args.n (omega arith)) c.put_byte.ensures

pub put_byte-requires-2 : goal.put_byte-requires-2
put_byte-requires-2 t c = omega (arith, c.put_natural.ensures.wrote.put.place, c.put_natural.ensures.wrote.size, (natural_more _ c.ranges.n.fits c.if-n-lt10.false).1)

pub returns-clause-wrote : goal.returns-clause-wrote
returns-clause-wrote t c = rw (natural_more _ c.ranges.n.fits c.if-n-lt10.false).0 (wrote_on c.put_natural.ensures.wrote c.put_byte-2.ensures)

pub returns-clause-within : goal.returns-clause-within
returns-clause-within t c = omega (arith, c.put_natural.ensures.wrote.put.place, c.put_byte-2.ensures.put.place, (natural_more _ c.ranges.n.fits c.if-n-lt10.false).1)
