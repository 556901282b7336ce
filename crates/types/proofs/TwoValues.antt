-- A model that wins over one of a value or more stands for two. Assumes nothing.
use mathlib.Core.Path.{◌≡◌, ap}
use mathlib.Core.Bool.{true}
use Prim.Native.Nat.{ℕ, ◌*◌, ◌≤◌, ◌<◌}
use native.Mathlib.Omega.{arith}
use Rattle.types.specs.Choice.{swing_wins}
use Rattle.types.specs.Fair.{MoreForEvery}
use Rattle.types.proofs.Wins.{wins-by-more}

pub wins-with-two : (m pmc swing : ℕ) → 1 ≤ pmc → swing_wins m pmc swing ≡ true → 2 ≤ swing
wins-with-two m pmc swing some h = go (wins-by-more m pmc swing h)
  where
    none : (more : ℕ) → more ≡ 0 → pmc < m * more → ⊥
    none more e l = omega (arith, ap (λ (k : ℕ). m * k) e, l)

    go : MoreForEvery m pmc swing → 2 ≤ swing
    go (more, is, l) = let any : more ≡ 0 → ⊥ = λ e. none more e l in omega (arith, is, any, some)
