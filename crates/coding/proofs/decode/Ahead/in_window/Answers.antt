-- `coding::decode::Ahead::in_window` meets its contract, branch by branch. Assumes nothing.
use mathlib.Core.Path.{◌≡◌, ◌∙◌, ap}
use mathlib.Core.Bool.{false, not}
use Prim.Native.Nat.{◌+◌, ◌<◌}
use native.Mathlib.Omega.{arith}
use Rattle.stream.specs.Format.{window_in, unset}
use Rattle.coding.proofs.Decoding.{keep-unset, keep-cut, keep-got}
use Rattle.coding.proofs.decode.Ahead.in_window.Goals as goal
use Rattle.coding.proofs.decode.Ahead.in_window.Goals.{Else-not-set}

is_set : (c : Else-not-set) → unset (window_in c.args.lead c.args.trail) ≡ false
is_set c = c.requires.1 ∙ ap not c.if-not-set.false

-- the window is set, so it leaves a bit
held : (c : Else-not-set) → c.args.lead + c.args.trail < 32
held c = c.requires.2 (is_set c)

pub returns-then-not-set : goal.returns-then-not-set
returns-then-not-set c =
    let a = c.args in
    keep-unset a.self.word a.self.left a.self.few (window_in a.lead a.trail) a.last (omega arith) c.requires.3 (c.requires.1 ∙ ap not c.if-not-set.true)

pub overflow_sub-width : goal.overflow_sub-width
overflow_sub-width c = omega (arith, held (goal.at.overflow_sub-width c).Else-not-set)

pub overflow_sub-width-2 : goal.overflow_sub-width-2
overflow_sub-width-2 c = omega (arith, held (goal.at.overflow_sub-width-2 c).Else-not-set)

pub returns-then-self-width : goal.returns-then-self-width
returns-then-self-width c =
    let a = c.args in
    keep-cut a.self.word a.self.left a.self.few (window_in a.lead a.trail) a.last (omega arith) c.requires.3 (is_set (goal.at.returns-then-self-width c).Else-not-set) (omega arith)

pub part-requires : goal.part-requires
part-requires c = omega (arith, held (goal.at.part-requires c).Else-not-set)

pub overflow_shl-result : goal.overflow_shl-result
overflow_shl-result c = omega (arith, held (goal.at.overflow_shl-result c).Else-not-set)

pub returns : goal.returns
returns c =
    let a = c.args in
    keep-got a.self.word a.self.left a.self.few (window_in a.lead a.trail) a.last (omega arith) c.requires.3
    c.part.result c.part.ensures (is_set (goal.at.returns c).Else-not-set) (held (goal.at.returns c).Else-not-set) (omega arith)
