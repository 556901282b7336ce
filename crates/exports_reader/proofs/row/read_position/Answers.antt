-- `exports_reader::row::read_position` meets its contract: words of 32 bits are their own low bits. Assumes nothing.
use Rattle.exports_reader.proofs.Faces.{low-words}
use Rattle.exports_reader.proofs.row.read_position.Goals as goal

pub returns : goal.returns
returns c = rw (c.low.ensures, c.low-2.ensures, c.low-3.ensures) (low-words c.args.row.now c.requires.stands)
