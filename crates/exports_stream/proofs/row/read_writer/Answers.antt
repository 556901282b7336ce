-- `exports_stream::row::read_writer` meets its contract: words of 32 bits are their own low bits. Assumes nothing.
use Rattle.exports_stream.proofs.Words.{low-words}
use Rattle.exports_stream.proofs.row.read_writer.Goals as goal

pub returns : goal.returns
returns c =
    let s = c in
    rw (c.low.ensures, c.low-2.ensures, c.low-3.ensures, c.low-4.ensures, c.low-5.ensures, c.value_of_f32.ensures, c.low-6.ensures) (low-words s.args.row.now s.requires.stands s.args.error_bound)
