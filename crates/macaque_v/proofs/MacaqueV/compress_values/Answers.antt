-- `macaque_v::MacaqueV::compress_values` meets its contract: refused by the first cause that holds, else written. Assumes nothing.
use mathlib.Core.Path.{◌≡◌, sym, ap, ◌∙◌}
use mathlib.Core.Bool.{false≢true}
use Prim.Native.Nat.{ℕ}
use lib.ListN.{length}
use Rattle.bits.specs.Bits.{laid_in}
use Rattle.models.specs.Answers.{answered, answered_on, refused, verdict, refusing, keeping}
use Rattle.models.specs.Refusals.{fault_of}
use Rattle.models.specs.Calls.{said_by}
use Rattle.models.proofs.Judged.{none, turned-back}
use Rattle.models.proofs.Judged as judging
use Rattle.macaque_v.specs.Write.{writer_at, wrote_by}
use Rattle.macaque_v.specs.Inner.Write.{written_by}
use Rattle.macaque_v.specs.Calls.{lent_bytes, write_causes, write_answer, write_memory}
use Rattle.macaque_v.proofs.Accepting.{accepted}
use Rattle.macaque_v.proofs.MacaqueV.compress_values.Goals as goal
use Rattle.macaque_v.proofs.MacaqueV.compress_values.Goals.{After-judge_write, In-Ok}

-- what the causes say, of the bytes that count
judged : (c : After-judge_write)
    → said_by c.judge_write.result
    ≡ verdict (write_causes c.args.self c.args.values.now (lent_bytes (length c.args.buffer.now)))
judged c =
    let a = c.args in
    c.judge_write.ensures ∙ ap (λ (n : ℕ). verdict (write_causes a.self a.values.now n)) c.lent_bytes.ensures

-- nothing refuses
clear : (c : In-Ok)
    → verdict (write_causes c.args.self c.args.values.now (lent_bytes (length c.args.buffer.now)))
    ≡ answered tt
clear c =
    let a = c.args in
    sym (c.judge_write.ensures ∙ ap (λ (n : ℕ). verdict (write_causes a.self a.values.now n)) c.lent_bytes.ensures) ∙ ap said_by c.in-Ok.is

pub write_noting-requires : goal.write_noting-requires
write_noting-requires c =
    let a = c.args in
    let s = accepted a.self a.values.now a.buffer.now (clear (goal.at.write_noting-requires c).In-Ok) in
    (s.0, (λ _. s.1), s.2, λ e. absurd (false≢true e))

pub returns-in-Err : goal.returns-in-Err
unfolding write_answer write_memory
returns-in-Err c =
    let a = c.args in
    let causes = write_causes a.self a.values.now (lent_bytes (length a.buffer.now)) in
    let n = fault_of c.in-Err.cause in
    let h : verdict causes ≡ refused n = sym (judged (goal.at.returns-in-Err c).After-judge_write) ∙ ap said_by c.in-Err.is in record { answer = (turned-back (refusing a.self) (answered_on (writer_at a.self (wrote_by a.self a.values.now))) causes n h); bytes = (turned-back (keeping a.buffer.now) (laid_in a.buffer.now a.self.place (written_by a.self a.values.now)) causes n h) }

pub returns-in-Ok : goal.returns-in-Ok
unfolding write_answer write_memory
returns-in-Ok c =
    let a = c.args in
    let causes = write_causes a.self a.values.now (lent_bytes (length a.buffer.now)) in
    let h = clear (goal.at.returns-in-Ok c).In-Ok in
    let w = c.write_noting.ensures in
    record { answer = ap answered_on w.state ∙ judging.accepted (refusing a.self) (answered_on (writer_at a.self (wrote_by a.self a.values.now))) causes (none causes h); bytes = w.bytes ∙ judging.accepted (keeping a.buffer.now) (laid_in a.buffer.now a.self.place (written_by a.self a.values.now)) causes (none causes h) }
