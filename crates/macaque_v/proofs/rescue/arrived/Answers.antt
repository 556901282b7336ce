-- `macaque_v::rescue::arrived` meets its contract: as many values as the limit, else as many as the refusal counts, or damage. Assumes nothing.
use mathlib.Core.Path.{◌≡◌, refl, sym, ap, subst₂}
use mathlib.Core.Bool.{Bool}
use Prim.Native.Nat.{ℕ}
use Rattle.std.specs.Prelude.{Ok, Err}
use native.Mathlib.Omega.{arith}
use Rattle.models.specs.Refusals.{fault_of}
use Rattle.models.specs.declared.Refusal.{Refusal}
use Rattle.models.specs.declared.Refusal.TheVariants as OfRefusal
use Rattle.macaque_v.specs.State.{is_first}
use Rattle.macaque_v.specs.Read.{start_of}
use Rattle.macaque_v.specs.Inner.ReadRun.{read_from, StopsBy, WalkSays}
use Rattle.macaque_v.specs.declared.read_run.Cursor.{Cursor}
use Rattle.macaque_v.specs.declared.read_run.Aim.TheVariants as OfAim
use Rattle.macaque_v.proofs.Arriving.{all-arrived, damage-there, few-there, cut-there}
use Rattle.macaque_v.proofs.rescue.arrived.Goals as goal
use Rattle.macaque_v.proofs.rescue.arrived.Goals.{In-Err}

-- why there are fewer
stops : (c : In-Err) → StopsBy (read_from (is_first c.args.opening) c.args.bytes.now (start_of c.args.opening) c.args.limit) c.in-Err.r
stops c = rw (c.open-source.ensures.0, c.open-source.ensures.1, c.open-source.ensures.2) at c.in-Err.ensures

-- 5 is the number of no other refusal
other : (r : Refusal) → ((value place : ℕ) → ¬ (r ≡ OfRefusal.EndsEarly value place)) → ¬ ((fault_of r).number ≡ 5)
other OfRefusal.BoundNotAllowed n h = absurd (omega arith)
other OfRefusal.StateNotAllowed n h = absurd (omega arith)
other OfRefusal.OverLimit n h = absurd (omega arith)
other OfRefusal.OutputTooShort n h = absurd (omega arith)
other (OfRefusal.EndsEarly value place) n h = n value place refl
other (OfRefusal.NoWindow value place) n h = absurd (omega arith)
other (OfRefusal.WindowNotAllowed value place) n h = absurd (omega arith)
other (OfRefusal.Leftover value place) n h = absurd (omega arith)
other OfRefusal.FormNotAllowed n h = absurd (omega arith)
other OfRefusal.TimesNotAllowed n h = absurd (omega arith)
other OfRefusal.NoModel n h = absurd (omega arith)
other OfRefusal.CountsDisagree n h = absurd (omega arith)
other OfRefusal.TableDoesNotMatch n h = absurd (omega arith)

pub go_through-requires : goal.go_through-requires
go_through-requires c = rw c.open-source.ensures.2 (omega arith)

pub go_through-requires-in-EndsEarly : goal.go_through-requires-in-EndsEarly
go_through-requires-in-EndsEarly c =
    let a = c.args in
    let few = few-there a.bytes.now a.opening a.limit c.in-Err.r (stops (goal.at.go_through-requires-in-EndsEarly c).In-Err) in
    let value : (fault_of c.in-Err.r).value ≡ c.in-EndsEarly.value = ap (λ (r : Refusal). (fault_of r).value) c.in-EndsEarly.is in
    rw c.open-source.ensures.2 (omega (arith, few, value, c.requires))

pub returns-in-Ok : goal.returns-in-Ok
returns-in-Ok c =
    let a = c.args in
    all-arrived a.bytes.now a.opening a.limit
    (rw (c.open-source.ensures.0, c.open-source.ensures.1, c.open-source.ensures.2) at c.in-Ok.ensures)

pub returns-in-EndsEarly : goal.returns-in-EndsEarly
returns-in-EndsEarly c =
    let a = c.args in
    let value = c.in-EndsEarly.value in
    let o = c.open-source.ensures in
    let says = rw (o.0, o.1, o.2) at c.go_through-in-EndsEarly.ensures in
    cut-there a.bytes.now a.opening a.limit c.in-Err.r (stops (goal.at.returns-in-EndsEarly c).In-Err)
    (ap (λ (r : Refusal). (fault_of r).number) c.in-EndsEarly.is) value (sym (ap (λ (r : Refusal). (fault_of r).value) c.in-EndsEarly.is))
    c.go_through-in-EndsEarly.result says

pub returns-in_default : goal.returns-in_default
returns-in_default c =
    let a = c.args in
    damage-there a.bytes.now a.opening a.limit c.in-Err.r (stops (goal.at.returns-in_default c).In-Err) (other c.in-Err.r c.in_default.not-EndsEarly)
