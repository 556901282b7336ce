-- `bits::aligned`: shifts that lose nothing, joined. Assumes nothing.
use Rattle.bits.proofs.Words.{aligned-is}
use Rattle.bits.proofs.aligned.Goals as goal

pub returns : goal.returns
returns c = aligned-is c.args.b c.args.skew c.args.width c.args.value c.ranges.b.fits c.requires.0 c.requires.2 c.requires.3
