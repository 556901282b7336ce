-- `macaque_v::MacaqueV::judge_write` meets its contract: the bits are counted only where nothing else refuses. Assumes nothing.
use borrow.Author.Rules.{rules}
use mathlib.Core.Path.{◌≡◌, sym, ap, ◌∙◌}
use mathlib.Core.Bool.{Bool, true, false, not, cond}
use mathlib.Core.List.{[], ◌∷◌}
use Prim.Native.Nat.{◌*◌}
use lib.Dec.{leb}
use lib.ListN.{length}
use Rattle.models.specs.Answers.{answered, refused, ◌when◌, judge, verdict, fault}
use Rattle.models.specs.Refusals.{fault_of}
use Rattle.models.specs.Calls.{said_by}
use Rattle.macaque_v.specs.Write.{wrote_by}
use Rattle.macaque_v.specs.Calls.{write_causes}
use Rattle.macaque_v.specs.Inner.Calls.{start_causes}
use Rattle.models.proofs.Judged.{refused-first, passed_first}
use Rattle.macaque_v.proofs.Passing.{passed-on}
use Rattle.macaque_v.proofs.Accepting.{started}
use Rattle.macaque_v.proofs.MacaqueV.judge_write.Goals as goal
use Rattle.macaque_v.proofs.MacaqueV.judge_write.Goals.{In_ok-judge_start}

-- what is judged before the values: nothing refuses
passed : (c : In_ok-judge_start)
    → verdict (start_causes c.args.self (length c.args.values.now) c.args.bytes)
    ≡ answered tt
passed c = sym c.judge_start.ensures ∙ ap said_by c.in_ok-judge_start.was

pub has_room-requires : goal.has_room-requires
has_room-requires c =
    let a = c.args in
    let s = started a.self (length a.values.now) a.bytes (passed (goal.at.has_room-requires c).In_ok-judge_start) in
    (search rules, s.0, s.1)

pub returns-in_err-judge_start : goal.returns-in_err-judge_start
returns-in_err-judge_start c =
    let a = c.args in
    let last = 4 when not (leb (wrote_by a.self a.values.now).place (8 * a.bytes)) ∷ [] in
    rw (passed-on c.from_residual.result c.from_residual.ensures.1)
    (sym (refused-first (start_causes a.self (length a.values.now) a.bytes) last (fault_of c.in_err-judge_start.field-0.0)
    (sym c.judge_start.ensures ∙ ap said_by c.in_err-judge_start.was)))

-- what is said of the room
said : (c : In_ok-judge_start) (fits : Bool) → leb (wrote_by c.args.self c.args.values.now).place (8 * c.args.bytes) ≡ fits
    → cond (not fits) (refused (fault 4)) (answered tt) ≡ verdict (write_causes c.args.self c.args.values.now c.args.bytes)
unfolding judge
said c fits e =
    let a = c.args in
    let last = 4 when not (leb (wrote_by a.self a.values.now).place (8 * a.bytes)) ∷ [] in
    ap (λ (b : Bool). cond (not b) (refused (fault 4)) (answered tt)) (sym e)
    ∙ sym (passed_first (start_causes a.self (length a.values.now) a.bytes) last (passed c))

pub returns-then-not-has_room : goal.returns-then-not-has_room
returns-then-not-has_room c = said (goal.at.returns-then-not-has_room c).In_ok-judge_start false (sym c.has_room.ensures ∙ c.if-not-has_room.true)

pub returns : goal.returns
returns c = said (goal.at.returns c).In_ok-judge_start true (sym c.has_room.ensures ∙ c.if-not-has_room.false)
