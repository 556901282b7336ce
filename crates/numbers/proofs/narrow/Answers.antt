-- `numbers::narrow` meets its contract: the pattern that `narrow_bits` makes is read back as the rounded value. Assumes nothing.
use mathlib.Core.Path.{◌≡◌, refl, sym, ap, ◌∙◌, subst}
use lib.Dec.{T}
use lib.Ieee.{Float, binary32, binary64, fits, to_bits}
use lib.Ieee.Bits.{of_bits-to_bits}
use Rattle.numbers.specs.Narrowed.{narrowed}
use Rattle.numbers.proofs.Nans.{differs, equals_itself, zero_by_zero, read_back, pattern-is-no-nan}
use Rattle.numbers.proofs.Convert.{narrowed-fits, narrowed-nan, narrowed-no-nan}
use Rattle.numbers.proofs.narrow.Goals as goal
use Rattle.numbers.proofs.narrow.Goals.{After-narrow_bits, Start}

-- what owning the parameter tells: its format holds it
held : (c : Start) → T (fits binary64 c.args.x)
held c = subst T (sym c.well_formed.0.1) tt

is : (c : After-narrow_bits) → c.narrow_bits.result ≡ to_bits binary32 (narrowed c.args.x)
is c = c.narrow_bits.ensures ∙ ap (λ (v : Float). to_bits binary32 (narrowed v)) (of_bits-to_bits binary64 c.args.x (held c.before.before))

pub float_to_bits-x : goal.float_to_bits-x
float_to_bits-x c = equals_itself c.args.x c.if-x.false

pub narrow_bits-requires : goal.narrow_bits-requires
narrow_bits-requires c = pattern-is-no-nan binary64 c.args.x _ (held (goal.at.narrow_bits-requires c).Start) refl (equals_itself c.args.x c.if-x.false)

pub float_from_bits-result : goal.float_from_bits-result
float_from_bits-result c =
    let x = c.args.x in
    pattern-is-no-nan binary32 (narrowed x) _ (narrowed-fits x) (is (goal.at.float_from_bits-result c).After-narrow_bits) (narrowed-no-nan x (equals_itself x c.if-x.false))

pub returns-then-x : goal.returns-then-x
returns-then-x c = zero_by_zero binary32 ∙ sym (ap narrowed (differs c.args.x c.if-x.true) ∙ narrowed-nan)

pub returns-else-x : goal.returns-else-x
returns-else-x c = read_back binary32 (narrowed c.args.x) _ (narrowed-fits c.args.x) (is (goal.at.returns-else-x c).After-narrow_bits)
