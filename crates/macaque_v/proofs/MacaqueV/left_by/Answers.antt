-- `macaque_v::MacaqueV::left_by` meets its contract. Assumes nothing.
use mathlib.Core.Path.{◌≡◌, refl, sym, ap, ap₂, ◌∙◌}
use Prim.Native.Nat.{ℕ, zero, suc, ◌+◌}
use Rattle.macaque_v.specs.State.{ends_in, state_of}
use Rattle.macaque_v.specs.Inner.Span.{min_max_said}
use Rattle.macaque_v.specs.Write.{writer_at}
use Rattle.macaque_v.specs.Inner.Write.{state_by, left_by}
use Rattle.macaque_v.specs.declared.MacaqueV.{MacaqueV}
use Rattle.macaque_v.specs.declared.write.Pen.{Pen}
use Rattle.macaque_v.proofs.MacaqueV.left_by.Goals as goal

left-none : (m : MacaqueV) (p : Pen) (n : ℕ) → n ≡ 0 → m ≡ left_by m p n
left-none m p n e = sym (ap (left_by m p) e)

left-some : (m : MacaqueV) (p : Pen) (n : ℕ) → ¬ (n ≡ 0) → writer_at m (state_by p (m.length + n) (min_max_said p.span (ends_in (state_of m)) p.last, p.sum)) ≡ left_by m p n
left-some m p zero h = absurd (h refl)
left-some m p (suc n) h = refl

pub returns-then-n-eq0 : goal.returns-then-n-eq0
returns-then-n-eq0 c = let a = c.args in left-none a.self a.pen a.n c.if-n-eq0.true

pub returns : goal.returns
returns c =
    let a = c.args in
    ap₂ (λ (x y : ℕ). writer_at a.self (state_by a.pen (a.self.length + a.n) (record { min = x; max = y }, a.pen.sum))) c.least.ensures c.greatest.ensures
    ∙ left-some a.self a.pen a.n c.if-n-eq0.false
