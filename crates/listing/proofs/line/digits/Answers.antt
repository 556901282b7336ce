use mathlib.Core.Path.{◌≡◌, sym, ap, ◌∙◌}
use Prim.Native.Nat.{ℕ, suc, ◌+◌, ◌-◌, ◌/◌}
use native.Mathlib.Nat.{mod-lt}
use native.Mathlib.Omega.{arith}
use lib.ListN.{set}
use lib.Seq.{sets}
use Rattle.listing.specs.Text.{digits_of}
use Rattle.listing.proofs.Putting.{digits_step}
use Rattle.listing.proofs.line.digits.Goals as goal

pub digit-requires : goal.digit-requires
digit-requires c = omega (arith, mod-lt c.loop-i.rest c.requires.0)

pub loop-i-preserved : goal.loop-i-preserved
loop-i-preserved c =
    let a = c.args in
    let l = c.loop-i in
    let e : suc (l.i - 1) ≡ l.i = omega arith in
    ap (λ (d : ℕ). sets (set l.line (a.at + (l.i - 1)) d) a.at (digits_of a.base (l.i - 1) (l.rest / a.base))) c.digit.ensures
    ∙ digits_step l.line a.at a.base (l.i - 1) l.rest
    ∙ ap (λ (k : ℕ). sets l.line a.at (digits_of a.base k l.rest)) e
    ∙ l.invariant

pub returns : goal.returns
unfolding digits_of
returns c =
    let a = c.args in
    let l = c.loop-i in
    let e : l.i ≡ 0 = omega arith in
    ap (λ (k : ℕ). sets l.line a.at (digits_of a.base k l.rest)) (sym e) ∙ l.invariant
