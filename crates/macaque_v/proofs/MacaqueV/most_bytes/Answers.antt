-- `macaque_v::MacaqueV::most_bytes` meets its contract: it rounds up what `most_bits` answers. Assumes nothing.
use mathlib.Core.Path.{◌≡◌, sym, ap, ◌∙◌}
use Prim.Native.Nat.{ℕ}
use native.Mathlib.Omega.{arith}
use Rattle.bits.specs.Bits.{whole_bytes}
use Rattle.models.specs.Answers.{answered, refused, NoneHolds}
use Rattle.models.specs.Causes.{count_causes}
use Rattle.models.specs.Refusals.{fault_of}
use Rattle.models.proofs.Judged.{accepted, turned, turned-back, told}
use Rattle.models.specs.Calls.{said_by}
use Rattle.macaque_v.specs.Size.{most_of, most_bits_answer, most_bytes_answer}
use Rattle.macaque_v.proofs.Passing.{passed-on}
use Rattle.macaque_v.proofs.MacaqueV.most_bytes.Goals as goal
use Rattle.macaque_v.proofs.MacaqueV.most_bytes.Goals.{In_ok-bits}

-- what the answer tells
module _ (c : In_ok-bits) where
  abbrev count : ℕ
  count = c.args.count

  abbrev bits : ℕ
  bits = c.in_ok-bits.bits

  answers : NoneHolds (count_causes count) × (bits ≡ most_of count c.args.opening)
  unfolding most_bits_answer
  answers = told (count_causes count) (most_of count c.args.opening) bits (sym (ap said_by c.in_ok-bits.was) ∙ c.most_bits.ensures)

pub returns-in_err-bits : goal.returns-in_err-bits
unfolding most_bits_answer most_bytes_answer
returns-in_err-bits c =
    let a = c.args in
    let f = fault_of c.in_err-bits.field-0.0 in
    let no = turned (count_causes a.count) (most_of a.count a.opening) f (sym (ap said_by c.in_err-bits.was) ∙ c.most_bits.ensures) in
    rw (passed-on c.from_residual.result c.from_residual.ensures.1) (turned-back refused (answered (whole_bytes (most_of a.count a.opening))) (count_causes a.count) f no)

pub returns : goal.returns
unfolding most_bytes_answer
returns c =
    let A = answers (goal.at.returns c).In_ok-bits in
    let whole : c.div_ceil.result ≡ whole_bytes (most_of c.args.count c.args.opening) = omega (arith, A.1) in
    ap answered whole ∙ accepted refused _ (count_causes c.args.count) A.0
