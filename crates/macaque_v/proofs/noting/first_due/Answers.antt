-- `macaque_v::noting::first_due` meets its contract. Assumes nothing.
use mathlib.Core.Path.{refl, sym, subst}
use mathlib.Core.Bool.{Bool}
use Prim.Native.Nat.{◌+◌, ◌-◌, ◌%◌}
use native.Mathlib.Omega.{arith}
use Rattle.macaque_v.specs.Inner.Noting.{DueAt}
use Rattle.macaque_v.proofs.noting.first_due.Goals as goal

pub returns-then-note : goal.returns-then-note
returns-then-note c =
    let a = c.args in
    subst (λ (b : Bool). DueAt b a.count a.n 0 (63 - (a.count + 63) % 64)) (sym c.if-note.true) (omega arith, omega arith, omega arith)

pub returns : goal.returns
returns c =
    let a = c.args in
    subst (λ (b : Bool). DueAt b a.count a.n 0 a.n) (sym c.if-note.false) refl
