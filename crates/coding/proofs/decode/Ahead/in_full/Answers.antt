-- `coding::decode::Ahead::in_full` meets its contract: its bits are the first 32. Assumes nothing.
use native.Mathlib.Omega.{arith}
use Rattle.stream.specs.Format.{window_in}
use Rattle.coding.proofs.Decoding.{raw-cut, raw-got}
use Rattle.coding.proofs.decode.Ahead.in_full.Goals as goal

pub returns-then-self-lt32 : goal.returns-then-self-lt32
returns-then-self-lt32 c =
    let a = c.args in
    raw-cut a.self.word a.self.left a.self.few (window_in a.lead a.trail) a.last (omega arith)

pub returns : goal.returns
returns c =
    let a = c.args in
    raw-got a.self.word a.self.left a.self.few (window_in a.lead a.trail) a.last c.part.result c.part.ensures (omega arith)
