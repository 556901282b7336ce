-- `macaque_v::read_run::left_behind` meets its contract: the padding bits as a number, then the further bytes. Assumes nothing.
use mathlib.Core.Path.{sym, subst}
use Prim.Native.Nat.{ℕ, ◌-◌, ◌*◌, ◌^◌, ◌<◌}
use native.Mathlib.Omega.{arith}
use lib.Count.{leading_le}
use Rattle.bits.specs.Bits.{bits_of}
use Rattle.bits.proofs.Fields.{field_at-lt}
use Rattle.macaque_v.proofs.ReadingEnd.{digits, bit-left, byte_left, none_left}
use Rattle.macaque_v.proofs.read_run.left_behind.Goals as goal
use Rattle.macaque_v.proofs.read_run.left_behind.Goals.{After-get-padding}

-- the padding is a number of less than 8 digits
small : (c : After-get-padding) → c.get-padding.result < 2 ^ (8 * c.div_ceil-whole.result - c.args.place)
small c =
    let a = c.args in
    let w = 8 * c.div_ceil-whole.result - a.place in
    subst (λ (n : ℕ). n < 2 ^ w) (sym c.get-padding.ensures) (field_at-lt a.place w (bits_of a.bytes.now))

pub overflow_sub-result : goal.overflow_sub-result
overflow_sub-result c = omega (arith, leading_le 64 c.get-padding.result)

pub overflow_sub-result-then-padding-ne0 : goal.overflow_sub-result-then-padding-ne0
overflow_sub-result-then-padding-ne0 c =
    let a = c.args in
    let w = 8 * c.div_ceil-whole.result - a.place in
    omega (arith, digits w c.get-padding.result (omega arith) (small (goal.at.overflow_sub-result-then-padding-ne0 c).After-get-padding))

pub returns-then-padding-ne0 : goal.returns-then-padding-ne0
returns-then-padding-ne0 c =
    let a = c.args in
    bit-left a.bytes.now a.place c.div_ceil-whole.result (omega arith) (omega arith) c.get-padding.result c.get-padding.ensures c.if-padding-ne0.true

pub returns-then-whole-bytes : goal.returns-then-whole-bytes
returns-then-whole-bytes c =
    let a = c.args in
    byte_left a.bytes.now a.place c.div_ceil-whole.result (omega arith) (omega arith) c.get-padding.result c.get-padding.ensures c.if-padding-ne0.false (omega arith)

pub returns : goal.returns
returns c =
    let a = c.args in
    none_left a.bytes.now a.place c.div_ceil-whole.result (omega arith) (omega arith) c.get-padding.result c.get-padding.ensures c.if-padding-ne0.false (omega arith)
