-- `macaque_v::span::said` meets its contract. Assumes nothing.
use mathlib.Core.Path.{◌≡◌, sym, ap, ◌∙◌}
use mathlib.Core.Bool.{Bool, cond, ◌||◌}
use Prim.Native.Nat.{ℕ}
use lib.Ieee.{Float, binary32, to_bits}
use Rattle.macaque_v.specs.Inner.Span.{is_number, said_bits}
use Rattle.macaque_v.proofs.span.said.Goals as goal

by-test : (x : Float) (some number : Bool) (start last : ℕ) (b : Bool) → number ≡ is_number start → (some || number) ≡ b → cond b (to_bits binary32 x) last ≡ said_bits x some start last
unfolding said_bits
by-test x some number start last b e h = ap (λ (t : Bool). cond t (to_bits binary32 x) last) (sym h ∙ ap (λ (t : Bool). some || t) e)

pub returns-then-some-is_number : goal.returns-then-some-is_number
returns-then-some-is_number c =
    let a = c.args in
    let n = c.is_number in
    c.bits_of_f32.ensures ∙ by-test a.x a.some n.result a.start a.last _ n.ensures c.if-some-is_number.true

pub returns : goal.returns
returns c =
    let a = c.args in
    let n = c.is_number in
    by-test a.x a.some n.result a.start a.last _ n.ensures c.if-some-is_number.false
