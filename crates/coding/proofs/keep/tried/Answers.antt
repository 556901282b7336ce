use mathlib.Core.Path.{◌≡◌, refl, sym, ap, ap₂, ◌∙◌}
use Prim.Native.Nat.{ℕ}
use native.Mathlib.Omega.{arith}
use lib.Ieee.{Float, binary32, of_bits}
use Rattle.models.specs.Bound.{within}
use Rattle.coding.specs.Keep.{may_replace, cleared, shortened}
use Rattle.coding.proofs.Keeping.{shortened-yes, shortened-no}
use Rattle.coding.proofs.keep.tried.Goals as goal
use Rattle.coding.proofs.keep.tried.Goals.{After-may_replace}

-- what the test says of the input with s bits cleared
tested : (c : After-may_replace)
    → may_replace c.args.error_bound c.args.value (cleared c.loop-s.s c.args.value) ≡ c.may_replace.result
tested c =
    let a = c.args in
    sym (c.may_replace.ensures ∙ ap₂ (λ (x : Float) (p : ℕ). within a.error_bound x (of_bits binary32 p)) c.requires c.clear-short.ensures)

pub loop-s-init : goal.loop-s-init
loop-s-init c = (omega arith, refl)

pub returns-then-may_replace : goal.returns-then-may_replace
returns-then-may_replace c =
    let l = c.loop-s in
    let a = c.args in
    c.clear-short.ensures ∙ sym (l.invariant.1 ∙ shortened-yes a.error_bound a.value l.s (omega arith) (tested (goal.at.returns-then-may_replace c).After-may_replace ∙ c.if-may_replace.true))

pub loop-s-preserved : goal.loop-s-preserved
loop-s-preserved c =
    let l = c.loop-s in
    let a = c.args in
    (omega arith, l.invariant.1 ∙ shortened-no a.error_bound a.value l.s (omega arith) (tested (goal.at.loop-s-preserved c).After-may_replace ∙ c.if-may_replace.false))

pub returns : goal.returns
unfolding shortened
returns c =
    let l = c.loop-s in
    let a = c.args in
    let end : l.s ≡ 0 = omega arith in
    sym (l.invariant.1 ∙ ap (λ (s : ℕ). shortened a.error_bound s a.value) end)
