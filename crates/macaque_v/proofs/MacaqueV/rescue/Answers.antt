-- `macaque_v::MacaqueV::rescue` meets its contract: refused by the first cause that holds, else by damage, else opened. Assumes nothing.
use mathlib.Core.Path.{sym, ◌∙◌}
use Prim.Native.Nat.{◌≤◌}
use lib.ListN.{length, take}
use lib.Seq.{length-take-le}
use Rattle.models.specs.Answers.{refused, keeping, NoneHolds}
use Rattle.models.specs.Causes.{bound_causes}
use Rattle.models.specs.Limits.{most_values}
use Rattle.models.proofs.Judged.{none-holds, when-passed, when-refused}
use Rattle.stream.proofs.RescueCalls.{rescue-says}
use Rattle.macaque_v.specs.State.{is_first}
use Rattle.macaque_v.proofs.Passing.{passed-on}
use Rattle.macaque_v.specs.Read.{rescue_causes, rescue_answer, rescue_memory}
use Rattle.macaque_v.specs.Inner.Read.{rescuing}
use Rattle.macaque_v.proofs.Arriving.{opened-as, ends-in}
use Rattle.macaque_v.proofs.MacaqueV.rescue.Goals as goal
use Rattle.macaque_v.proofs.MacaqueV.rescue.Goals.{In_ok-judge_rescue}

-- where no cause holds
allows : (c : In_ok-judge_rescue) → NoneHolds (bound_causes c.args.error_bound) × (c.args.limit ≤ most_values) × (c.args.used ≤ length c.args.buffer.now)
allows c =
    let a = c.args in
    rescue-says (bound_causes a.error_bound) (length a.buffer.now) a.used a.limit
    (none-holds (rescue_causes a.error_bound (length a.buffer.now) a.used a.limit) _ c.judge_rescue.ensures c.in_ok-judge_rescue.was)

pub slice_bounds-arrived-end-2 : goal.slice_bounds-arrived-end-2
slice_bounds-arrived-end-2 c = sym (length-take-le c.args.used c.args.buffer.now (allows (goal.at.slice_bounds-arrived-end-2 c).In_ok-judge_rescue).2)

pub open_behind-requires : goal.open_behind-requires
open_behind-requires c =
    let a = c.args in
    ends-in (rescuing (take a.used a.buffer.now) a.limit a.opening) a.buffer.now a.used c.arrived-found.result (allows (goal.at.open_behind-requires c).In_ok-judge_rescue).2 c.arrived-found.ensures

pub returns-in_err-judge_rescue-clause-answer : goal.returns-in_err-judge_rescue-clause-answer
unfolding rescue_answer
returns-in_err-judge_rescue-clause-answer c = rw (passed-on c.from_residual.result c.from_residual.ensures.1) (when-refused _ _ c.judge_rescue.ensures refused _ _ c.in_err-judge_rescue.was)

pub returns-in_err-judge_rescue-clause-bytes : goal.returns-in_err-judge_rescue-clause-bytes
unfolding rescue_memory
returns-in_err-judge_rescue-clause-bytes c = when-refused _ _ c.judge_rescue.ensures (keeping c.args.buffer.now) _ _ c.in_err-judge_rescue.was

pub returns : goal.returns
unfolding rescue_answer rescue_memory
returns c =
    let a = c.args in
    let causes = rescue_causes a.error_bound (length a.buffer.now) a.used a.limit in
    let says = c.judge_rescue.ensures in
    let ok = c.in_ok-judge_rescue.was in
    let bytes = take a.used a.buffer.now in
    let r = opened-as a.error_bound (is_first a.opening) (rescuing bytes a.limit a.opening) bytes a.buffer.now c.arrived-found.result c.arrived-found.ensures in record { answer = c.open_behind.ensures.answer ∙ r.0 ∙ when-passed causes _ says refused _ ok; bytes = c.open_behind.ensures.bytes ∙ r.1 ∙ when-passed causes _ says (keeping a.buffer.now) _ ok }

pub slice_bounds-arrived-end : goal.slice_bounds-arrived-end
slice_bounds-arrived-end c = (allows (goal.at.slice_bounds-arrived-end c).In_ok-judge_rescue).2

pub arrived-found-requires : goal.arrived-found-requires
arrived-found-requires c = (allows (goal.at.arrived-found-requires c).In_ok-judge_rescue).1
