-- What the calls that write parameter bytes answer and leave. Assumes nothing.
use Rattle.std.specs.Prelude.{List, [], ◌∷◌, ◌++◌, ℕ, ltb, length, drop}
use Rattle.models.specs.Answers.{Said, Cause, ◌when◌, judged, judged_memory}

-- ---- writing: the bytes stand in the first places, and the others keep what they held

abbrev pub too_short : List ℕ → List ℕ → List Cause
too_short bytes out = 4 when ltb (length out) (length bytes) ∷ []

unfoldable pub length_answer : List ℕ → List ℕ → Said ℕ
length_answer bytes out = judged (too_short bytes out) (length bytes)

unfoldable pub bytes_after : List ℕ → List ℕ → List ℕ
bytes_after bytes out = judged_memory out (too_short bytes out) (bytes ++ drop (length bytes) out)
