-- `bits::merged`: what is kept and what comes in do not meet, and make a byte. Assumes nothing.
use Rattle.bits.proofs.Words.{merged-lt, merged-is}
use Rattle.bits.proofs.merged.Goals as goal

pub overflow_cast-result : goal.overflow_cast-result
overflow_cast-result c = record { fits = merged-lt c.args.b c.args.m c.args.n c.args.part c.ranges.b.fits c.requires.0 c.requires.1 }

pub returns : goal.returns
returns c = merged-is c.args.b c.args.m c.args.n c.args.part c.ranges.b.fits c.requires.0 c.requires.1
