-- A model's values: their sum, and their grid in a lent output. A model is its average's pattern.
use Rattle.std.specs.Prelude.{List, [], ◌∷◌, ◌++◌, ℕ, ltb, pos, length, drop, replicate}
use Rattle.std.specs.Float.Ieee as Ieee
use Rattle.std.specs.Float.{binary32}
use Rattle.std.specs.Float.Ieee.{of_bits, to_bits}
use Rattle.models.specs.Answers.{Said, Cause, ◌when◌, judged, judged_memory}
use Rattle.models.specs.Floats.{plain_bits}
use Rattle.models.specs.Limits.{most_values}
use Rattle.models.specs.Causes.{count_causes}

-- ---- sum: "length × value in f32"
unfoldable pub sum_answer : ℕ → ℕ → Said ℕ
sum_answer count value =
    judged (count_causes count)
    (to_bits binary32 (Ieee.mul binary32 (Ieee.of_int binary32 (pos count)) (of_bits binary32 value)))

-- ---- grid: the value in the first `count` places of an output that has `room`; the others keep what they held
abbrev pub grid_causes : ℕ → ℕ → List Cause
grid_causes count room = 3 when ltb most_values count ∷ 4 when ltb room count ∷ []

unfoldable pub filled : ℕ → ℕ → List ℕ → List ℕ
filled bits count out = replicate count bits ++ drop count out

unfoldable pub grid_memory : ℕ → ℕ → List ℕ → List ℕ
grid_memory value count out = judged_memory out (grid_causes count (length out)) (filled (plain_bits value) count out)
