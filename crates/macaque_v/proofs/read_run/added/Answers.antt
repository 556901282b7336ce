use native.Mathlib.Omega.{arith}
use mathlib.Core.Path.{sym, ap, ◌∙◌}
use lib.ListN.{length}
use borrow.Author.Tests.{eqb-false}
use Rattle.std.proofs.lemmas.Bool.{eqb-true}
use Rattle.std.proofs.lemmas.List.{take_all}
use Rattle.stream.specs.Format.{gather_from}
use Rattle.macaque_v.specs.State.{gather_sum, mode_of}
use Rattle.macaque_v.proofs.Stepping.{raw-is}
use Rattle.macaque_v.proofs.ReadingTally.{gather-empty, sum-none, sum_more, sum-held}
use Rattle.macaque_v.proofs.read_run.added.Goals as goal

pub returns-then-is_empty : goal.returns-then-is_empty
returns-then-is_empty c = let a = c.args in gather-empty gather_sum (mode_of a.first) a.count a.sum a.values.now (eqb-true _ 0 (sym c.if-is_empty.ensures))

pub loop-value-init : goal.loop-value-init
loop-value-init c =
    let a = c.args in
    sum-none (mode_of a.first) a.count a.sum a.values.now _ c.begun-total.result (raw-is a.first a.count) c.begun-total.ensures

pub loop-value-preserved : goal.loop-value-preserved
loop-value-preserved c =
    let a = c.args in
    let l = c.loop-value in
    c.joined-total.ensures ∙ sum_more (mode_of a.first) a.count a.sum a.values.now l.value-index (omega arith) l.total l.invariant

pub returns : goal.returns
returns c =
    let a = c.args in
    let l = c.loop-value in
    let some = eqb-false (length a.values.now) 0 (sym c.if-is_empty.ensures) in
    sum-held (mode_of a.first) a.count a.sum a.values.now l.value-index l.total (omega (arith, some)) l.invariant
    ∙ ap (gather_from gather_sum (mode_of a.first) a.count a.sum) (take_all l.value-index a.values.now (omega arith))
