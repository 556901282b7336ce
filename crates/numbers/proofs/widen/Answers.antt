-- `numbers::widen` meets its contract: the pattern that `widen_bits` makes is read back as the value. Assumes nothing.
use mathlib.Core.Path.{◌≡◌, refl, sym, ap, ◌∙◌, subst}
use lib.Dec.{T}
use lib.Ieee.{binary32, binary64, fits, to_bits}
use lib.Ieee.Fits.{fits_widens}
use lib.Ieee.Bits.{of_bits-to_bits}
use Rattle.numbers.proofs.Nans.{differs, equals_itself, zero_by_zero, read_back, pattern-is-no-nan}
use Rattle.numbers.proofs.widen.Goals as goal
use Rattle.numbers.proofs.widen.Goals.{After-widen_bits, Start}

-- what owning the parameter tells: its format holds it
held : (c : Start) → T (fits binary32 c.args.x)
held c = subst T (sym c.well_formed.0.1) tt

is : (c : After-widen_bits) → c.widen_bits.result ≡ to_bits binary64 c.args.x
is c = c.widen_bits.ensures ∙ ap (to_bits binary64) (of_bits-to_bits binary32 c.args.x (held c.before.before))

pub float_to_bits-x : goal.float_to_bits-x
float_to_bits-x c = equals_itself c.args.x c.if-x.false

pub widen_bits-requires : goal.widen_bits-requires
widen_bits-requires c = pattern-is-no-nan binary32 c.args.x _ (held (goal.at.widen_bits-requires c).Start) refl (equals_itself c.args.x c.if-x.false)

pub float_from_bits-result : goal.float_from_bits-result
float_from_bits-result c =
    let x = c.args.x in
    pattern-is-no-nan binary64 x _ (fits_widens x (held (goal.at.float_from_bits-result c).Start)) (is (goal.at.float_from_bits-result c).After-widen_bits) (equals_itself x c.if-x.false)

pub returns-then-x : goal.returns-then-x
returns-then-x c = zero_by_zero binary64 ∙ sym (differs c.args.x c.if-x.true)

pub returns-else-x : goal.returns-else-x
returns-else-x c = read_back binary64 c.args.x _ (fits_widens c.args.x (held (goal.at.returns-else-x c).Start)) (is (goal.at.returns-else-x c).After-widen_bits)
