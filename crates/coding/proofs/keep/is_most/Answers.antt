-- `coding::keep::is_most` meets its contract: where more cleared bits stay within, so do fewer, so two tests tell. Assumes nothing.
use borrow.Author.Rules.{rules}
use mathlib.Core.Path.{ap₂, ◌∙◌}
use Prim.Native.Nat.{ℕ}
use lib.Ieee.{Float, binary32, of_bits}
use Rattle.models.specs.Bound.{within}
use Rattle.coding.proofs.Clearing.{two-tests}
use Rattle.coding.proofs.keep.is_most.Goals as goal

pub clear-requires : goal.clear-requires
clear-requires c = search rules

pub returns : goal.returns
returns c h =
    let s = c in
    let a = s.args in
    two-tests a.error_bound a.value a.s _ _ s.requires.1
    (c.may_replace.ensures ∙ ap₂ (λ (x : Float) (p : ℕ). within a.error_bound x (of_bits binary32 p)) s.requires.0 c.clear.ensures)
    (c.may_replace-2.ensures ∙ ap₂ (λ (x : Float) (p : ℕ). within a.error_bound x (of_bits binary32 p)) s.requires.0 c.clear-2.ensures)
    h
