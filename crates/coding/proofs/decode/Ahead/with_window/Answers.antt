-- `coding::decode::Ahead::with_window` meets its contract, branch by branch. Assumes nothing.
use mathlib.Core.Logic.{inl, inr}
use native.Mathlib.Omega.{arith}
use Rattle.stream.specs.Format.{window_in}
use Rattle.coding.proofs.Decoding.{header-cut, header-wrong, new-cut, new-got}
use Rattle.coding.proofs.decode.Ahead.with_window.Goals as goal

pub returns-then-self-lt13 : goal.returns-then-self-lt13
returns-then-self-lt13 c =
    let a = c.args in
    header-cut a.self.word a.self.left a.self.few (window_in a.lead a.trail) a.last c.requires.1 (omega arith) c.requires.2 (omega arith)

pub returns-then-meaningful-eq0 : goal.returns-then-meaningful-eq0
returns-then-meaningful-eq0 c =
    let a = c.args in
    header-wrong a.self.word a.self.left a.self.few (window_in a.lead a.trail) a.last c.requires.1 (omega arith) c.requires.2
    c.part-zeros.result c.part-meaningful.result c.part-zeros.ensures c.part-meaningful.ensures (omega arith) (inl c.if-meaningful-eq0.true)

pub returns-then-zeros-meaningful-gt32 : goal.returns-then-zeros-meaningful-gt32
returns-then-zeros-meaningful-gt32 c =
    let a = c.args in
    header-wrong a.self.word a.self.left a.self.few (window_in a.lead a.trail) a.last c.requires.1 (omega arith) c.requires.2
    c.part-zeros.result c.part-meaningful.result c.part-zeros.ensures c.part-meaningful.ensures (omega arith) (inr c.if-zeros-meaningful-gt32.true)

pub returns-then-self-width : goal.returns-then-self-width
returns-then-self-width c =
    let a = c.args in
    new-cut a.self.word a.self.left a.self.few (window_in a.lead a.trail) a.last c.requires.1 (omega arith) c.requires.2
    c.part-zeros.result c.part-meaningful.result c.part-zeros.ensures c.part-meaningful.ensures (omega arith) (omega arith) (omega arith) (omega arith)

pub returns : goal.returns
returns c =
    let a = c.args in
    new-got a.self.word a.self.left a.self.few (window_in a.lead a.trail) a.last c.requires.1 (omega arith) c.requires.2
    c.part-zeros.result c.part-meaningful.result c.part-zeros.ensures c.part-meaningful.ensures (omega arith)
    c.part.result c.part.ensures (omega arith) (omega arith) (omega arith)
