-- `choice::swing_wins` meets its contract: no product is above 2^32. Assumes nothing.
use mathlib.Core.Path.{refl}
use Prim.Native.Nat.{ℕ, ◌+◌, ◌*◌, ◌^◌, ◌≤◌}
use native.Mathlib.Nat.{mul-le-mul}
use native.Mathlib.Omega.{arith}
use Rattle.models.specs.Limits.{most_values}
use Rattle.types.specs.Choice.{swing_wins}
use Rattle.types.proofs.choice.swing_wins.Goals as goal

product : (k n : ℕ) → k ≤ most_values → n ≤ most_values → k * n ≤ 2 ^ 32
product k n h l = mul-le-mul h l

pub overflow_add-result : goal.overflow_add-result
overflow_add-result c = omega (arith, c.requires.few_bytes)

pub overflow_mul-result : goal.overflow_mul-result
overflow_mul-result c = omega (arith, product (c.args.m + 1) c.args.pmc_mean (omega (arith, c.requires.few_bytes)) c.requires.few_pmc_mean)

pub overflow_mul-result-2 : goal.overflow_mul-result-2
overflow_mul-result-2 c = omega (arith, product c.args.m c.args.swing (omega (arith, c.requires.few_bytes)) c.requires.few_swing)

pub returns : goal.returns
unfolding swing_wins
returns c = refl
