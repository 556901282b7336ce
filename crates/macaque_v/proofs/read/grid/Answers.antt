-- `macaque_v::read::grid` meets its contract: refused by the first cause that holds, else by the stream, else drawn. Assumes nothing.
use mathlib.Core.Path.{sym, ap, ◌∙◌}
use mathlib.Core.Bool.{true}
use Prim.Native.Nat.{◌≤◌}
use native.Mathlib.Omega.{arith}
use borrow.Author.Tests.{ltb-false}
use lib.ListN.{length}
use Rattle.models.specs.Answers.{refused, keeping}
use Rattle.models.specs.Limits.{most_values}
use Rattle.models.proofs.Judged.{none-holds, when-passed, when-refused}
use Rattle.macaque_v.proofs.Passing.{passed-on}
use Rattle.macaque_v.specs.Read.{values_in, grid_causes, drawn, grid_answer, grid_memory}
use Rattle.macaque_v.specs.Inner.Read.{values_from, drawn_at}
use Rattle.macaque_v.proofs.ReadingAll.{same-values}
use Rattle.macaque_v.proofs.Drawing.{drawn-from-start}
use Rattle.macaque_v.proofs.read.grid.Goals as goal
use Rattle.macaque_v.proofs.read.grid.Goals.{In_ok-judge_grid}

-- neither too many values nor too little room
room : (c : In_ok-judge_grid)
    → (c.args.count ≤ most_values) × (c.args.count ≤ length c.args.out.now)
room c =
    let a = c.args in
    let none = none-holds (grid_causes a.count (length a.out.now)) _ c.judge_grid.ensures c.in_ok-judge_grid.was in
    (ltb-false most_values a.count none.0, ltb-false (length a.out.now) a.count none.1.0)

pub draw-requires : goal.draw-requires
draw-requires c =
    let a = c.args in
    let h = room (goal.at.draw-requires c).In_ok-judge_grid in
    rw c.open.ensures.2 (omega (arith, h.0), omega (arith, h.1))

pub returns-in_err-judge_grid-clause-answer : goal.returns-in_err-judge_grid-clause-answer
unfolding grid_answer
returns-in_err-judge_grid-clause-answer c = rw (passed-on c.from_residual.result c.from_residual.ensures.1) (when-refused _ _ c.judge_grid.ensures refused _ _ c.in_err-judge_grid.was)

pub returns-in_err-judge_grid-clause-values : goal.returns-in_err-judge_grid-clause-values
unfolding grid_memory
returns-in_err-judge_grid-clause-values c = when-refused _ _ c.judge_grid.ensures (keeping c.args.out.now) _ _ c.in_err-judge_grid.was

pub returns : goal.returns
unfolding grid_answer grid_memory
returns c =
    let a = c.args in
    let d = c.draw in
    let causes = grid_causes a.count (length a.out.now) in
    let ok = c.in_ok-judge_grid.was in
    let says = c.judge_grid.ensures in
    let o = c.open.ensures in
    let values = sym (same-values a.bytes.now a.opening a.count) in record {
      answer = (rw (o.0, o.1, o.2) at d.ensures.answer) ∙ ap drawn values ∙ when-passed causes _ says refused _ ok;
      values = (rw (o.0, o.1, o.2) at d.ensures.values)
          ∙ ap (drawn_at 0 a.out.now) values
          ∙ drawn-from-start a.out.now (values_in a.bytes.now a.count a.opening)
          ∙ when-passed causes _ says (keeping a.out.now) _ ok;
    }
