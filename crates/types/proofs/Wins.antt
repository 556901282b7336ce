-- By whole numbers Swing wins exactly where it took more than one value more for every m that PMC-Mean took. Assumes nothing.
use mathlib.Core.Path.{◌≡◌, ap, ◌∙◌}
use mathlib.Core.Bool.{true}
use Prim.Native.Nat.{ℕ, ◌+◌, ◌-◌, ◌*◌, ◌<◌}
use native.Mathlib.Nat.{mul-add, add-mul, one-mul, lt_of_mul-lt-mul_left}
use native.Mathlib.Omega.{arith}
use borrow.Author.Tests.{ltb-true, lt-ltb}
use Rattle.types.specs.Choice.{swing_wins}
use Rattle.types.specs.Fair.{MoreForEvery}

-- a product with m + 1
one_more : (m n : ℕ) → (m + 1) * n ≡ m * n + n
one_more m n = add-mul m 1 n ∙ ap (λ (k : ℕ). m * n + k) (one-mul n)

pub wins-by-more : (m pmc swing : ℕ) → swing_wins m pmc swing ≡ true → MoreForEvery m pmc swing
unfolding swing_wins
wins-by-more m pmc swing h =
    let less : (m + 1) * pmc < m * swing = ltb-true ((m + 1) * pmc) (m * swing) h in
    let far : pmc < swing + 1 = lt_of_mul-lt-mul_left (m + 1) (omega (arith, less, one_more m (swing + 1), mul-add m swing 1)) in
    let is : swing ≡ pmc + (swing - pmc) = omega (arith, far) in
    (swing - pmc, is, omega (arith, less, one_more m pmc, ap (λ (k : ℕ). m * k) is, mul-add m pmc (swing - pmc)))

pub more-wins : (m pmc swing : ℕ) → MoreForEvery m pmc swing → swing_wins m pmc swing ≡ true
unfolding swing_wins
more-wins m pmc swing (more, is, h) =
    lt-ltb ((m + 1) * pmc) (m * swing) (omega (arith, h, one_more m pmc, ap (λ (k : ℕ). m * k) is, mul-add m pmc more))
