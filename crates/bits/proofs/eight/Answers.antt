-- `bits::eight`: the sum of eight bytes is the field of 64 bits. Assumes nothing.
use mathlib.Core.Path.{◌∙◌}
use Rattle.bits.proofs.Chunks.{eight_is}
use Rattle.bits.proofs.eight.Goals as goal
use Rattle.bits.proofs.eight.Goals.{After-from_be_bytes}

pub returns : goal.returns
returns c =
    let at-start = (goal.at.returns c).After-from_be_bytes in
    c.from_be_bytes.ensures ∙ eight_is at-start.args.bytes.now at-start.args.i at-start.requires (λ n. (c.shared_slice_known-9-1.given n).fits)
