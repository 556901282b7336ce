-- `coding::code::coded` meets its contract: a raw value is its own bits. Assumes nothing.
use mathlib.Core.Path.{refl, subst⁻¹}
use mathlib.Core.Bool.{Bool}
use native.Mathlib.Omega.{arith}
use Rattle.stream.specs.Format.{bits_for, window_for, window_in}
use Rattle.coding.specs.Inner.Code.{Coded}
use Rattle.coding.proofs.code.coded.Goals as goal

pub returns-then-raw : goal.returns-then-raw
unfolding bits_for window_for
returns-then-raw c =
    let a = c.args in
    subst⁻¹ (λ (raw : Bool). Coded raw (window_in a.lead a.trail) a.last a.value (record { width = 32; bits = a.value; lead = a.lead; trail = a.trail })) c.if-raw.true
    (record { digits = refl; small = omega arith; window = refl; some = omega arith; short = omega arith })

pub returns : goal.returns
unfolding bits_for window_for
returns c =
    let a = c.args in
    subst⁻¹ (λ (raw : Bool). Coded raw (window_in a.lead a.trail) a.last a.value c.by_xor.result) c.if-raw.false c.by_xor.ensures
