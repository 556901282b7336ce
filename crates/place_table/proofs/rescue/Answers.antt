-- `place_table::rescue` meets its contract: refused by the first cause that holds, else by damage; else opened as the plain call does, with the table of
-- what was found. Assumes nothing.
use mathlib.Core.Path.{◌≡◌, sym, ap, ◌∙◌}
use mathlib.Core.List.{List}
use Prim.Native.Nat.{ℕ, ◌≤◌}
use lib.ListN.{length, take}
use lib.Seq.{length-take-le}
use Rattle.std.specs.Prelude.{Ok}
use Rattle.models.specs.Answers.{Said, refused, keeping, Cause}
use Rattle.models.specs.Causes.{bound_causes}
use Rattle.models.specs.Limits.{most_values}
use Rattle.models.proofs.Judged.{none-holds, when-passed}
use Rattle.stream.proofs.RescueCalls.{rescue-says}
use Rattle.places.specs.Table.{entries_for}
use Rattle.places.specs.Calls.{entries_lent}
use Rattle.places.proofs.RescueCalls.{table-rescue-says}
use Rattle.stream.specs.Read.{Reopened}
use Rattle.macaque_v.specs.State.{Known, is_first}
use Rattle.macaque_v.specs.Inner.Read.{rescuing, opened_behind, cut_behind}
use Rattle.macaque_v.specs.declared.MacaqueV.{MacaqueV}
use Rattle.macaque_v.proofs.Passing.{passed-on}
use Rattle.macaque_v.proofs.Arriving.{opened-as, ends-in}
use Rattle.place_table.specs.Calls.{table_rescue_causes, table_rescue_answer, table_rescue_memory, table_rescue_table}
use Rattle.place_table.specs.Inner.Rescue.{beside_said, noted_found}
use Rattle.place_table.proofs.Beside.{beside-resumed}
use Rattle.place_table.proofs.Anew.{found_in, noted-anew}
use Rattle.place_table.proofs.rescue.Goals as goal
use Rattle.place_table.proofs.rescue.Goals.{In_ok-judge_rescue, After-arrived-found}

-- where no cause holds
allows : (c : In_ok-judge_rescue)
    → (c.args.limit ≤ most_values) × (c.args.used ≤ length c.args.buffer.now) × (entries_for c.args.limit ≤ entries_lent (length c.args.table.now))
allows c =
    let a = c.args in
    let none = none-holds (table_rescue_causes a.error_bound (length a.buffer.now) a.used a.limit (length a.table.now)) _ c.judge_rescue.ensures c.in_ok-judge_rescue.was in
    let t = table-rescue-says (bound_causes a.error_bound) (length a.buffer.now) a.used a.limit (length a.table.now) none in
    let p = rescue-says (bound_causes a.error_bound) (length a.buffer.now) a.used a.limit t.0 in
    (p.1, p.2, t.1)

pub note_found-requires : goal.note_found-requires
note_found-requires c =
    let a = c.args in
    let free = allows (goal.at.note_found-requires c).In_ok-judge_rescue in
    found_in (take a.used a.buffer.now) a.opening a.limit a.table.now c.arrived-found.result free.0 free.2 c.arrived-found.ensures

pub open_behind-requires : goal.open_behind-requires
open_behind-requires c =
    let a = c.args in
    ends-in (rescuing (take a.used a.buffer.now) a.limit a.opening) a.buffer.now a.used c.arrived-found.result (allows (goal.at.open_behind-requires c).In_ok-judge_rescue).1 c.arrived-found.ensures

-- what going through the bytes found, as the call answers it and leaves it
module _ (c : After-arrived-found) where
  abbrev causes : List Cause
  causes = table_rescue_causes c.args.error_bound (length c.args.buffer.now) c.args.used c.args.limit (length c.args.table.now)

  abbrev bytes : List ℕ
  bytes = take c.args.used c.args.buffer.now

  abbrev q : Reopened Known
  q = rescuing bytes c.args.limit c.args.opening

  ok : c.judge_rescue.result ≡ Ok tt
  ok = c.in_ok-judge_rescue.was

  said : (s : Said MacaqueV) → s ≡ opened_behind c.args.error_bound (is_first c.args.opening) c.arrived-found.result
      → beside_said s ≡ table_rescue_answer c.args.buffer.now c.args.used c.args.limit c.args.opening c.args.error_bound (length c.args.table.now)
  unfolding table_rescue_answer
  said s e =
      let a = c.args in
      let r = opened-as a.error_bound (is_first a.opening) q bytes a.buffer.now c.arrived-found.result c.arrived-found.ensures in
      ap beside_said (e ∙ r.0) ∙ beside-resumed a.error_bound (is_first a.opening) q ∙ when-passed causes _ c.judge_rescue.ensures refused _ ok

  left : (new : List ℕ) → new ≡ cut_behind c.arrived-found.result c.args.buffer.now
      → new ≡ table_rescue_memory c.args.buffer.now c.args.used c.args.limit c.args.opening c.args.error_bound (length c.args.table.now)
  unfolding table_rescue_memory
  left new e =
      let a = c.args in
      let r = opened-as a.error_bound (is_first a.opening) q bytes a.buffer.now c.arrived-found.result c.arrived-found.ensures in
      e ∙ r.1 ∙ when-passed causes _ c.judge_rescue.ensures (keeping a.buffer.now) _ ok

  laid : (new : List ℕ) → new ≡ noted_found bytes c.args.opening c.args.table.now c.arrived-found.result
      → new ≡ table_rescue_table c.args.buffer.now c.args.used c.args.limit c.args.opening c.args.error_bound c.args.table.now
  unfolding table_rescue_table
  laid new e =
      let a = c.args in
      e ∙ noted-anew bytes a.opening a.table.now q c.arrived-found.result c.arrived-found.ensures ∙ when-passed causes _ c.judge_rescue.ensures (keeping a.table.now) _ ok

pub returns-in_err-kept : goal.returns-in_err-kept
returns-in_err-kept c =
    let k = (goal.at.returns-in_err-kept c).After-arrived-found in
    record { answer = rw (passed-on c.from_residual-in_err-kept.result c.from_residual-in_err-kept.ensures.1) (said k _ c.in_err-kept.ensures.answer); bytes = left k _ c.open_behind.ensures.bytes; words = laid k _ c.note_found.ensures }

pub returns : goal.returns
returns c =
    let k = (goal.at.returns c).After-arrived-found in
    record { answer = rw c.entries_for.ensures (said k _ c.in_ok-kept.ensures.answer); bytes = left k _ c.open_behind.ensures.bytes; words = laid k _ c.note_found.ensures }

pub slice_bounds-arrived-end : goal.slice_bounds-arrived-end
slice_bounds-arrived-end c = (allows (goal.at.slice_bounds-arrived-end c).In_ok-judge_rescue).1

pub slice_bounds-arrived-end-2 : goal.slice_bounds-arrived-end-2
slice_bounds-arrived-end-2 c = sym (length-take-le c.args.used c.args.buffer.now (allows (goal.at.slice_bounds-arrived-end-2 c).In_ok-judge_rescue).1)

pub arrived-found-requires : goal.arrived-found-requires
arrived-found-requires c = (allows (goal.at.arrived-found-requires c).In_ok-judge_rescue).0

pub slice_bounds-note_found-end : goal.slice_bounds-note_found-end
slice_bounds-note_found-end c = (allows (goal.at.slice_bounds-note_found-end c).In_ok-judge_rescue).1

pub slice_bounds-note_found-end-2 : goal.slice_bounds-note_found-end-2
slice_bounds-note_found-end-2 c = sym (length-take-le c.args.used c.args.buffer.now (allows (goal.at.slice_bounds-note_found-end-2 c).In_ok-judge_rescue).1)
