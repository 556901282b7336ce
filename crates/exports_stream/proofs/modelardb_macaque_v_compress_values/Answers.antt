-- `exports_stream::modelardb_macaque_v_compress_values` meets its contract: where the call behind it accepts, the row holds its words. Assumes nothing.
use mathlib.Core.Path.{sym}
use Rattle.exports_stream.proofs.Faces.{stands}
use Rattle.exports_stream.proofs.Words.{has_words}
use Rattle.exports_stream.proofs.modelardb_macaque_v_compress_values.Goals as goal

pub put_written-requires : goal.put_written-requires
put_written-requires c =
    let a = c.args in
    has_words a.state.now (stands a.state.now a.values.now a.buffer.now c.in-Ok.after (sym (rw c.writer_of.ensures at c.in-Ok.ensures.answer)))
