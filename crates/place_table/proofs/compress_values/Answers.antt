-- `place_table::compress_values` meets its contract: refused by the first cause that holds, else written and noted. Assumes nothing.
use mathlib.Core.Path.{◌≡◌, sym, ap, ap₂, ◌∙◌}
use Prim.Native.Nat.{ℕ}
use lib.ListN.{length}
use Rattle.models.specs.Answers.{answered, answered_on, verdict, refusing}
use Rattle.models.specs.Calls.{said_by}
use Rattle.models.proofs.Judged.{none, turned-back}
use Rattle.models.proofs.Judged as judging
use Rattle.stream.specs.Calls.{lent_bytes}
use Rattle.places.specs.Table.{entries_for}
use Rattle.macaque_v.specs.declared.MacaqueV.{MacaqueV}
use Rattle.macaque_v.proofs.Writing.{written_count}
use Rattle.place_table.specs.Calls.{table_write_causes, table_write_answer}
use Rattle.place_table.proofs.Beside.{accepted}
use Rattle.place_table.proofs.compress_values.Goals as goal
use Rattle.place_table.proofs.compress_values.Goals.{In-Ok}

-- nothing refuses
clear : (c : In-Ok)
    → verdict (table_write_causes c.args.writer c.args.values.now (lent_bytes (length c.args.buffer.now)) (length c.args.table.now) c.args.entries)
    ≡ answered tt
clear c =
    let a = c.args in
    sym (c.judge_write.ensures ∙ ap (λ (n : ℕ). verdict (table_write_causes a.writer a.values.now n (length a.table.now) a.entries)) c.lent_bytes-bytes.ensures)
    ∙ ap said_by c.in-Ok.is

pub write_noting-after-requires : goal.write_noting-after-requires
write_noting-after-requires c =
    let a = c.args in
    let s = accepted a.writer a.values.now a.buffer.now (length a.table.now) a.entries (none _ (clear (goal.at.write_noting-after-requires c).In-Ok)) in
    (s.few, (λ _. s.room), s.near, (λ _. s.lent))

pub returns-in-Ok-clause-answer : goal.returns-in-Ok-clause-answer
unfolding table_write_answer
returns-in-Ok-clause-answer c =
    let a = c.args in
    let causes = table_write_causes a.writer a.values.now (lent_bytes (length a.buffer.now)) (length a.table.now) a.entries in
    let w = c.write_noting-after.ensures in
    let number = c.entries_for.ensures ∙ ap (λ (m : MacaqueV). entries_for m.length) w.state ∙ ap entries_for (written_count a.writer a.values.now) in
    ap₂ (λ (m : MacaqueV) (n : ℕ). answered_on (record { writer = m; entries = n })) w.state number ∙ judging.accepted (refusing a.writer) _ causes (none causes (clear (goal.at.returns-in-Ok-clause-answer c).In-Ok))
