-- `numbers::widen_size` meets its contract. Assumes nothing.
use mathlib.Core.Path.{◌≡◌, sym, ap, ◌∙◌, subst}
use Prim.Native.Nat.{ℕ, ◌+◌, ◌-◌, ◌*◌, ◌%◌, ◌^◌, ◌≤◌, ◌<◌}
use native.Mathlib.Omega.{arith}
use native.Mathlib.Nat.{pos_of_ne-zero, zero-mul, mod-eq_of_lt, lt_of_lt_of_le}
use lib.Dec.{lit<, lit≤}
use lib.Pow.{pow_pos}
use lib.Ieee.{size}
use lib.Ieee.Digits.{size-le}
use Rattle.numbers.specs.Inner.Patterns.{encoded}
use Rattle.numbers.proofs.Encode.{encoded-low, encoded-moved, moved-lt}
use Rattle.numbers.proofs.widen_size.Goals as goal
use Rattle.numbers.proofs.widen_size.Goals.{After-length-z}

abbrev m : After-length-z → ℕ
m c = c.before.before.args.m

abbrev x : After-length-z → ℕ
x c = c.before.before.args.x

-- m has no more than 24 digits
few : (c : After-length-z) → size (m c) ≤ 24
few c = size-le (m c) 24 c.requires.0

some : (c : After-length-z) → 0 < m c
some c = pos_of_ne-zero c.if-m-eq0.false

fit : (c : After-length-z) → size (m c) ≤ 53
fit c = omega (arith, few c)

-- so they can be moved up to 53
moved : (c : After-length-z) → m c * 2 ^ (53 - c.length-z.result) < 2 ^ 53
moved c = subst (λ (z : ℕ). m c * 2 ^ (53 - z) < 2 ^ 53) (sym c.length-z.ensures) (moved-lt 53 925 (m c) (lit< tt) (lit≤ tt) (some c) (fit c))

whole : (c : After-length-z) → m c * 2 ^ (53 - c.length-z.result) % 2 ^ 64 ≡ m c * 2 ^ (53 - c.length-z.result)
whole c = mod-eq_of_lt (lt_of_lt_of_le (moved c) (lit≤ tt))

pub returns-then-m-eq0 : goal.returns-then-m-eq0
returns-then-m-eq0 c = (
  sym (ap (λ (k : ℕ). encoded 53 (k * 2 ^ (c.args.x + 925))) c.if-m-eq0.true ∙ ap (encoded 53) (zero-mul (2 ^ (c.args.x + 925))) ∙ encoded-low 53 (lit< tt) 0 (pow_pos 52)),
  lit< tt,
)

pub overflow_add-result-2 : goal.overflow_add-result-2
overflow_add-result-2 c = omega (arith, few (goal.at.overflow_add-result-2 c).After-length-z)

pub overflow_mul-result : goal.overflow_mul-result
overflow_mul-result c = omega (arith, few (goal.at.overflow_mul-result c).After-length-z)

pub overflow_sub-result : goal.overflow_sub-result
overflow_sub-result c = omega (arith, few (goal.at.overflow_sub-result c).After-length-z)

pub overflow_add-result-3 : goal.overflow_add-result-3
overflow_add-result-3 c = omega (arith, few (goal.at.overflow_add-result-3 c).After-length-z, whole (goal.at.overflow_add-result-3 c).After-length-z, moved (goal.at.overflow_add-result-3 c).After-length-z)

pub returns : goal.returns
returns c = (
  ap (λ (k : ℕ). (x (goal.at.returns c).After-length-z + 872 + c.length-z.result) * 2 ^ 52 + k) (whole (goal.at.returns c).After-length-z)
      ∙ ap (λ (z : ℕ). (x (goal.at.returns c).After-length-z + 872 + z) * 2 ^ 52 + m (goal.at.returns c).After-length-z * 2 ^ (53 - z)) c.length-z.ensures
      ∙ encoded-moved 53 925 (m (goal.at.returns c).After-length-z) (lit< tt) (lit≤ tt) (some (goal.at.returns c).After-length-z) (fit (goal.at.returns c).After-length-z) (x (goal.at.returns c).After-length-z),
  omega (arith, few (goal.at.returns c).After-length-z, whole (goal.at.returns c).After-length-z, moved (goal.at.returns c).After-length-z),
)
