-- `coding::decode::part` meets its contract: a word shifted twice. Assumes nothing.
use mathlib.Core.Path.{sym, subst}
use Prim.Native.Nat.{ℕ, ◌-◌, ◌*◌, ◌/◌, ◌%◌, ◌^◌, ◌<◌}
use native.Mathlib.Omega.{arith}
use lib.Pow.{pow_mono}
use native.Mathlib.Nat.{lt_of_lt_of_le}
use Rattle.bits.specs.Bits.{field}
use Rattle.bits.proofs.Fields.{field_at-lt}
use Rattle.coding.proofs.Words.{part-is}
use Rattle.coding.proofs.decode.part.Goals as goal
use Rattle.coding.proofs.decode.part.Goals.{Start}

small : (c : Start) → (c.args.word * 2 ^ c.args.skip) % 2 ^ 64 / 2 ^ (64 - c.args.width) < 2 ^ c.args.width
small c =
    let a = c.args in
    subst (λ (n : ℕ). n < 2 ^ a.width) (sym (part-is a.word a.skip a.width (omega arith))) (field_at-lt a.skip a.width (field 64 a.word))

pub overflow_cast-result : goal.overflow_cast-result
overflow_cast-result c = record { fits = lt_of_lt_of_le (small (goal.at.overflow_cast-result c).Start) (pow_mono {i = c.args.width} {j = 32} (omega arith)) }

pub returns : goal.returns
returns c = record { is = part-is c.args.word c.args.skip c.args.width (omega arith); small = small (goal.at.returns c).Start }
