-- `place_table::range` meets its contract: refused by the first cause that holds, else what reading behind the entry gives. Assumes nothing.
use mathlib.Core.Path.{◌≡◌, sym, ap, ap₂, ◌∙◌, subst}
use mathlib.Core.Bool.{Bool}
use mathlib.Core.List.{[]}
use Prim.Native.Nat.{◌-◌, ◌%◌, ◌≤◌, ◌<◌}
use native.Mathlib.Omega.{arith}
use lib.ListN.{length}
use Rattle.bits.specs.Bits.{bits_of}
use Rattle.models.specs.Answers.{answered, refused, keeping, NoneHolds}
use Rattle.models.proofs.Judged.{none-holds, when-passed, when-refused}
use Rattle.stream.specs.Calls.{drawn, drawn_in}
use Rattle.places.specs.Table.{read_range}
use Rattle.places.specs.Calls.{table_in}
use Rattle.places.proofs.Any.{range-empty}
use Rattle.macaque_v.specs.State.{stream_in, is_first}
use Rattle.macaque_v.specs.Inner.ReadRun.{ReadableAt}
use Rattle.macaque_v.specs.declared.read_run.Cursor.{Cursor}
use Rattle.macaque_v.proofs.Passing.{passed-on}
use Rattle.place_table.specs.Calls.{range_causes, range_answer, range_memory}
use Rattle.place_table.specs.Inner.Range.{values_behind}
use Rattle.place_table.proofs.Ranging.{range-behind, in_order, lent, may-begin, fits}
use Rattle.place_table.proofs.range.Goals as goal
use Rattle.place_table.proofs.range.Goals.{In_ok-judge_range}

-- nothing refuses
clear : (c : In_ok-judge_range)
    → NoneHolds (range_causes (length c.args.bytes.now) c.args.count c.args.table.now c.args.entries c.args.p c.args.q (length c.args.out.now))
clear c = none-holds _ _ c.judge_range.ensures c.in_ok-judge_range.was

pub returns-then-q-p : goal.returns-then-q-p
unfolding range_answer range_memory
returns-then-q-p c =
    let a = c.args in
    let causes = range_causes (length a.bytes.now) a.count a.table.now a.entries a.p a.q (length a.out.now) in
    let says = c.judge_range.ensures in
    let ok = c.in_ok-judge_range.was in
    let free = clear (goal.at.returns-then-q-p c).In_ok-judge_range in
    let le : a.q ≤ a.p = c.if-q-p.true in
    let same : a.p ≡ a.q = omega (arith, (in_order a.bytes.now a.table.now a.count a.entries a.p a.q (length a.out.now) free).0) in
    let none : answered [] ≡ read_range (stream_in (is_first a.opening)) (bits_of a.bytes.now) (table_in a.table.now a.entries) a.p a.q =
    sym (ap (read_range (stream_in (is_first a.opening)) (bits_of a.bytes.now) (table_in a.table.now a.entries) a.p) (sym same) ∙ range-empty (stream_in (is_first a.opening)) (bits_of a.bytes.now) (table_in a.table.now a.entries) a.p) in
    record { answer = ap drawn none ∙ when-passed causes _ says refused _ ok; values = ap (drawn_in a.out.now) none ∙ when-passed causes _ says (keeping a.out.now) _ ok }

pub cursor_at-requires : goal.cursor_at-requires
cursor_at-requires c =
    let a = c.args in
    let free = clear (goal.at.cursor_at-requires c).In_ok-judge_range in
    let lt : a.p < a.q = c.if-q-p.false in
    let T = may-begin a.bytes.now a.table.now a.count a.entries a.p a.q (length a.out.now) free lt in
    let L = lent a.bytes.now a.table.now a.count a.entries a.p a.q (length a.out.now) free lt in
    let o = in_order a.bytes.now a.table.now a.count a.entries a.p a.q (length a.out.now) free in
    (omega (arith, T.used, L), omega (arith, o.1, o.2, lt))

pub invariant_of-from : goal.invariant_of-from
invariant_of-from c =
    let a = c.args in
    let free = clear (goal.at.invariant_of-from c).In_ok-judge_range in
    let T = may-begin a.bytes.now a.table.now a.count a.entries a.p a.q (length a.out.now) free c.if-q-p.false in
    record { readable = subst (ReadableAt a.bytes.now) (sym c.cursor_at.ensures) T.readable }

pub draw_behind-requires : goal.draw_behind-requires
draw_behind-requires c =
    let a = c.args in
    let free = clear (goal.at.draw_behind-requires c).In_ok-judge_range in
    let lt : a.p < a.q = c.if-q-p.false in
    let o = in_order a.bytes.now a.table.now a.count a.entries a.p a.q (length a.out.now) free in
    let counted = ap (λ (x : Cursor). x.count) c.cursor_at.ensures in
    (omega (arith, o.1, o.2, lt, counted), omega arith, fits a.bytes.now a.table.now a.count a.entries a.p a.q (length a.out.now) free)

pub returns-in_err-judge_range : goal.returns-in_err-judge_range
unfolding range_answer range_memory
returns-in_err-judge_range c =
    let a = c.args in
    let causes = range_causes (length a.bytes.now) a.count a.table.now a.entries a.p a.q (length a.out.now) in
    let says = c.judge_range.ensures in
    record { answer = rw (passed-on c.from_residual.result c.from_residual.ensures.1) (when-refused causes _ says refused _ _ c.in_err-judge_range.was); values = when-refused causes _ says (keeping a.out.now) _ _ c.in_err-judge_range.was }

pub returns : goal.returns
unfolding range_answer range_memory
returns c =
    let a = c.args in
    let causes = range_causes (length a.bytes.now) a.count a.table.now a.entries a.p a.q (length a.out.now) in
    let says = c.judge_range.ensures in
    let ok = c.in_ok-judge_range.was in
    let free = clear (goal.at.returns c).In_ok-judge_range in
    let lt : a.p < a.q = c.if-q-p.false in
    let d = c.draw_behind.ensures in
    let T = may-begin a.bytes.now a.table.now a.count a.entries a.p a.q (length a.out.now) free lt in
    let values = ap₂ (λ (first : Bool) (at : Cursor). values_behind first a.bytes.now at (a.p % 64) (a.q - a.p)) c.is_first.ensures c.cursor_at.ensures
    ∙ sym (range-behind (is_first a.opening) a.bytes.now a.table.now a.entries a.p a.q lt T) in record { answer = d.answer ∙ ap drawn values ∙ when-passed causes _ says refused _ ok; values = d.values ∙ ap (drawn_in a.out.now) values ∙ when-passed causes _ says (keeping a.out.now) _ ok }
