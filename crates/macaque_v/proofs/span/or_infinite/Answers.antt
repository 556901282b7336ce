-- `macaque_v::span::or_infinite` meets its contract: a number differs from itself exactly if it is a NaN. Assumes nothing.
use mathlib.Core.Path.{◌≡◌, refl, sym, ap, ◌∙◌}
use mathlib.Core.Bool.{Bool, false, cond}
use lib.Ieee as Ieee
use lib.Ieee.{Float, inf, binary32, of_bits, div}
use Rattle.models.proofs.Laws.{ne-self}
use Rattle.macaque_v.specs.Inner.Span.{or_infinite}
use Rattle.macaque_v.proofs.span.or_infinite.Goals as goal

one-by-zero : div binary32 (of_bits binary32 0x3f80_0000) (of_bits binary32 0) ≡ inf false
unfolding div of_bits
one-by-zero = refl

by-test : (x : Float) (b : Bool) → Ieee.ne x x ≡ b → cond b (inf false) x ≡ or_infinite x
unfolding or_infinite
by-test x b h = ap (λ (t : Bool). cond t (inf false) x) (sym h ∙ ne-self x)

pub returns-then-x : goal.returns-then-x
returns-then-x c = one-by-zero ∙ by-test c.args.x _ c.if-x.true

pub returns-else-x : goal.returns-else-x
returns-else-x c = by-test c.args.x _ c.if-x.false
