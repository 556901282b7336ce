-- `listing::line::word` meets its contract: the slice's own copy puts the bytes there. Assumes nothing.
use mathlib.Core.Path.{refl}
use native.Mathlib.Omega.{arith}
use Rattle.listing.proofs.Putting.{word-put}
use Rattle.listing.proofs.line.word.Goals as goal

pub returns : goal.returns
returns c =
    let a = c.args in
    record {
      is = rw c.copy_from_slice.ensures.after (word-put a.line.now a.at a.bytes.now (omega arith));
      ends = refl;
    }
