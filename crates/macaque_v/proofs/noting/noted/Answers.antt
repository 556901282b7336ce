-- `macaque_v::noting::noted` meets its contract: the entry, where the value has one. Assumes nothing.
use native.Mathlib.Omega.{arith}
use borrow.Author.Tests.{eq-eqb, ne_eqb}
use mathlib.Core.Path.{refl, ap, ◌∙◌}
use mathlib.Core.List.{[], ◌∷◌}
use Prim.Native.Nat.{ℕ, ◌+◌, ◌/◌}
use Rattle.places.specs.Calls.{laid_entries}
use Rattle.macaque_v.specs.Inner.Noting.{entry_in}
use Rattle.macaque_v.proofs.noting.noted.Goals as goal

pub returns-then-i-to : goal.returns-then-i-to
returns-then-i-to c =
    let a = c.args in
    rw (ne_eqb a.i a.to c.if-i-to.true) record { next = refl; words = refl }

pub returns : goal.returns
returns c =
    let a = c.args in
    let last = c.last_before-last.ensures in
    rw (eq-eqb a.i a.to c.if-i-to.false)
    record { next = omega arith; words = c.put_entry.ensures ∙ ap (λ (l : ℕ). laid_entries a.table.now ((a.count + a.i) / 64) (entry_in a.pen.place l a.pen.lead a.pen.trail ∷ [])) last }

pub put_entry-requires : goal.put_entry-requires
put_entry-requires c = c.requires.2 c.if-i-to.false
