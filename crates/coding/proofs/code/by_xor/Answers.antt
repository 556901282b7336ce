-- `coding::code::by_xor` meets its contract, kind by kind. Assumes nothing.
use Prim.Native.Nat.{◌+◌, ◌^◌, ◌≤◌, ◌<◌}
use native.Mathlib.Nat.{div-le_self}
use native.Mathlib.Omega.{arith}
use lib.Count.{count_leading_zeros, count_trailing_zeros}
use Rattle.coding.proofs.Coding.{same_code, keep-code, new-code, fits-window, zeros-apart, own_bits}
use Rattle.coding.proofs.code.by_xor.Goals as goal
use Rattle.coding.proofs.code.by_xor.Goals.{Else-x-eq0, Then-lead-zeros}

-- the window that x was found to fit
kept : (c : Then-lead-zeros) → (c.args.lead ≤ count_leading_zeros 32 c.args.x) × (c.args.trail ≤ count_trailing_zeros 32 c.args.x)
kept c =
    let a = c.args in
    fits-window a.lead a.trail a.x (omega arith) (omega arith) c.if-lead-zeros.true

apart : (c : Else-x-eq0) → count_leading_zeros 32 c.args.x + count_trailing_zeros 32 c.args.x < 32
apart c =
    let a = c.args in
    zeros-apart a.lead a.trail a.x (omega arith) (omega arith)

pub returns-then-x-eq0 : goal.returns-then-x-eq0
returns-then-x-eq0 c = same_code c.args.lead c.args.trail c.args.x c.if-x-eq0.true

pub overflow_sub-result : goal.overflow_sub-result
overflow_sub-result c = omega (arith, kept (goal.at.overflow_sub-result c).Then-lead-zeros, apart (goal.at.overflow_sub-result c).Else-x-eq0)

pub overflow_sub-result-then-lead-zeros : goal.overflow_sub-result-then-lead-zeros
overflow_sub-result-then-lead-zeros c = omega (arith, kept (goal.at.overflow_sub-result-then-lead-zeros c).Then-lead-zeros, apart (goal.at.overflow_sub-result-then-lead-zeros c).Else-x-eq0)

pub overflow_shr-result : goal.overflow_shr-result
overflow_shr-result c = omega (arith, kept (goal.at.overflow_shr-result c).Then-lead-zeros, apart (goal.at.overflow_shr-result c).Else-x-eq0)

pub overflow_cast-result-then-lead-zeros : goal.overflow_cast-result-then-lead-zeros
overflow_cast-result-then-lead-zeros c = omega (arith, div-le_self c.args.x (2 ^ c.args.trail))

pub returns-then-lead-zeros : goal.returns-then-lead-zeros
returns-then-lead-zeros c =
    let a = c.args in
    keep-code a.lead a.trail a.x (omega arith) (omega arith) c.if-lead-zeros.true

pub overflow_sub-meaningful : goal.overflow_sub-meaningful
overflow_sub-meaningful c = omega (arith, apart (goal.at.overflow_sub-meaningful c).Else-x-eq0)

pub overflow_sub-meaningful-2 : goal.overflow_sub-meaningful-2
overflow_sub-meaningful-2 c = omega (arith, apart (goal.at.overflow_sub-meaningful-2 c).Else-x-eq0)

pub overflow_shr-x : goal.overflow_shr-x
overflow_shr-x c = omega (arith, apart (goal.at.overflow_shr-x c).Else-x-eq0)

pub overflow_cast-x : goal.overflow_cast-x
overflow_cast-x c = omega (arith, div-le_self c.args.x (2 ^ count_trailing_zeros 32 c.args.x))

pub with_header-requires : goal.with_header-requires
with_header-requires c =
    let a = c.args in
    (omega (arith, apart (goal.at.with_header-requires c).Else-x-eq0), omega arith, own_bits a.lead a.trail a.x (omega arith) (omega arith))

pub returns : goal.returns
returns c =
    let a = c.args in
    new-code a.lead a.trail a.x (omega arith) (omega arith) c.with_header.result c.if-lead-zeros.false c.with_header.ensures
