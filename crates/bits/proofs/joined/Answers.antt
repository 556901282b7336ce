-- `bits::joined`: a shift that loses nothing, and bits that do not meet. Assumes nothing.
use Rattle.bits.proofs.Words.{shl-or}
use Rattle.bits.proofs.joined.Goals as goal

pub returns : goal.returns
returns c = shl-or c.args.v c.args.n c.args.part c.requires.1 c.requires.2
