-- Answers on their way into a lent row.
use Rattle.std.specs.Prelude.{cond, List, [], ◌∷◌, ◌++◌, ℕ, leb, length, drop, Result, Ok, Err}
use Rattle.models.specs.Answers.{Said, Done, answered, refused}
use Rattle.models.specs.Refusals.{fault_of}
use Rattle.models.specs.declared.Refusal.{Refusal}

-- ---- an answer by its words
abbrev pub worded : {A : Type 0} → (A → List ℕ) → Said A → Said (List ℕ)
worded words (answered x) = answered (words x)
worded words (refused n) = refused n

-- words that are given where a verdict lets them
abbrev pub words_said : Result Done Refusal → List ℕ → Said (List ℕ)
words_said (Ok u) words = answered words
words_said (Err r) words = refused (fault_of r)

abbrev pub whole_row : List ℕ → List ℕ
whole_row words = words

abbrev pub pair_row : ℕ × ℕ → List ℕ
pair_row ends = ends.0 ∷ ends.1 ∷ []

-- a row with words at its front, where it holds them
unfoldable pub front_after : {T : Type 0} → List T → List T → List T
front_after words row = cond (leb (length words) (length row)) (words ++ drop (length words) row) row
