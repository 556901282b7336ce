-- `place_table::reopen` meets its contract: refused by the first cause that holds, else what the plain call says. Assumes nothing.
use mathlib.Core.Path.{◌≡◌, sym, ap, ◌∙◌}
use mathlib.Core.List.{List}
use Prim.Native.Nat.{ℕ}
use lib.ListN.{length, take}
use Rattle.models.specs.Answers.{Said, refused, keeping, Cause, NoneHolds}
use Rattle.models.specs.declared.ErrorBound.{ErrorBound}
use Rattle.models.proofs.Judged.{none-holds, when-passed, when-refused}
use Rattle.models.proofs.Judged as judging
use Rattle.stream.specs.Read.{buffer_after}
use Rattle.macaque_v.specs.State.{is_first}
use Rattle.macaque_v.specs.Read.{reopen_causes, reopen_answer, reopen_memory}
use Rattle.macaque_v.specs.Inner.Read.{reopening, resumed}
use Rattle.macaque_v.specs.declared.MacaqueV.{MacaqueV}
use Rattle.macaque_v.specs.declared.Opening.{Opening}
use Rattle.macaque_v.proofs.Passing.{passed-on}
use Rattle.place_table.specs.Calls.{table_reopen_causes, table_reopen_answer, table_reopen_memory}
use Rattle.place_table.specs.Inner.Rescue.{beside_said}
use Rattle.place_table.proofs.Beside.{beside-resumed}
use Rattle.place_table.proofs.reopen.Goals as goal
use Rattle.place_table.proofs.reopen.Goals.{In_ok-judge_reopen}

-- where nothing refuses, the plain call says and leaves what the stream gives
plainly : (buf : List ℕ) (used count k : ℕ) (o : Opening) (b : ErrorBound) (words entries : ℕ) → NoneHolds (table_reopen_causes b (length buf) used count k words entries)
    → (reopen_answer buf used count k o b ≡ resumed b (is_first o) (reopening (take used buf) count k o)) × (reopen_memory buf used count k o b ≡ buffer_after (reopening (take used buf) count k o) buf)
unfolding reopen_answer reopen_memory
plainly buf used count k o b words entries free =
    let none : NoneHolds (reopen_causes b (length buf) used count k) = (free.0, (free.1.0, (free.1.1.0, tt))) in
    (sym (judging.accepted refused _ (reopen_causes b (length buf) used count k) none), sym (judging.accepted (keeping buf) (buffer_after (reopening (take used buf) count k o) buf) (reopen_causes b (length buf) used count k) none))

-- what the plain call says is what is said of it here, with the entries
module _ (c : In_ok-judge_reopen) where
  abbrev causes : List Cause
  causes = table_reopen_causes c.args.error_bound (length c.args.buffer.now) c.args.used c.args.count c.args.k (length c.args.table.now) c.args.entries

  free : NoneHolds causes
  free = none-holds causes _ c.judge_reopen.ensures c.in_ok-judge_reopen.was

  said : (q : Said MacaqueV) → q ≡ reopen_answer c.args.buffer.now c.args.used c.args.count c.args.k c.args.opening c.args.error_bound
      → beside_said q ≡ table_reopen_answer c.args.buffer.now c.args.used c.args.count c.args.k c.args.opening c.args.error_bound (length c.args.table.now) c.args.entries
  unfolding table_reopen_answer
  said q e =
      let a = c.args in
      let p = plainly a.buffer.now a.used a.count a.k a.opening a.error_bound (length a.table.now) a.entries free in
      ap beside_said (e ∙ p.0) ∙ beside-resumed a.error_bound (is_first a.opening) (reopening (take a.used a.buffer.now) a.count a.k a.opening)
      ∙ when-passed causes _ c.judge_reopen.ensures refused _ c.in_ok-judge_reopen.was

  left : (bytes : List ℕ) → bytes ≡ reopen_memory c.args.buffer.now c.args.used c.args.count c.args.k c.args.opening c.args.error_bound
      → bytes ≡ table_reopen_memory c.args.buffer.now c.args.used c.args.count c.args.k c.args.opening c.args.error_bound (length c.args.table.now) c.args.entries
  unfolding table_reopen_memory
  left bytes e =
      let a = c.args in
      let p = plainly a.buffer.now a.used a.count a.k a.opening a.error_bound (length a.table.now) a.entries free in
      e ∙ p.1 ∙ when-passed causes _ c.judge_reopen.ensures (keeping a.buffer.now) _ c.in_ok-judge_reopen.was

pub returns-in_err-opened : goal.returns-in_err-opened
returns-in_err-opened c =
    let k = (goal.at.returns-in_err-opened c).In_ok-judge_reopen in
    record { answer = rw (passed-on c.from_residual-in_err-opened.result c.from_residual-in_err-opened.ensures.1) (said k _ c.in_err-opened.ensures.answer); bytes = left k _ c.reopen.ensures.bytes }

pub returns : goal.returns
returns c =
    let k = (goal.at.returns c).In_ok-judge_reopen in
    record { answer = rw c.entries_for.ensures (said k _ c.in_ok-opened.ensures.answer); bytes = left k _ c.reopen.ensures.bytes }
