-- `macaque_v::span::lesser` meets its contract. Assumes nothing.
use mathlib.Core.Path.{◌≡◌, sym, ap}
use mathlib.Core.Bool.{Bool, cond}
use lib.Ieee as Ieee
use lib.Ieee.{Float}
use Rattle.macaque_v.specs.Inner.Span.{lesser_of}
use Rattle.macaque_v.proofs.span.lesser.Goals as goal

by-test : (x y : Float) (b : Bool) → Ieee.lt y x ≡ b → cond b y x ≡ lesser_of x y
unfolding lesser_of
by-test x y b h = ap (λ (t : Bool). cond t y x) (sym h)

pub returns-then-y-x : goal.returns-then-y-x
returns-then-y-x c = by-test c.args.x c.args.y _ c.if-y-x.true

pub returns-else-y-x : goal.returns-else-y-x
returns-else-y-x c = by-test c.args.x c.args.y _ c.if-y-x.false
