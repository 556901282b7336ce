-- The whole output of the comparing program, from the bytes of its two files. Assumes nothing.
use Rattle.std.specs.Prelude.{List, [], ◌∷◌, ◌++◌, ℕ, length}
use Rattle.models.specs.Answers.{Said, answered, refused}
use Rattle.comparing.specs.File.{file_values}
use Rattle.comparing.specs.Differences.{differences}
use Rattle.comparing.specs.Text.{difference_text, differ_text, side_text}
use Rattle.comparing.specs.declared.Side.TheVariants.{Left, Right}
use Rattle.comparing.specs.declared.Difference.{Difference}

abbrev pub lines_text : List Difference → List ℕ
lines_text [] = []
lines_text (d ∷ ds) = difference_text d ++ lines_text ds

-- a line for each difference, and the last line with their number
abbrev pub differences_text : List Difference → List ℕ
differences_text ds = lines_text ds ++ differ_text (length ds)

-- "Refusals: the left stream's, else the right's": the only line
abbrev pub both_text : Said (List ℕ) → Said (List ℕ) → List ℕ
both_text (refused f) right = side_text Left f
both_text (answered us) (refused f) = side_text Right f
both_text (answered us) (answered vs) = differences_text (differences us vs)

unfoldable pub compare_text : List ℕ → List ℕ → List ℕ
compare_text left right = both_text (file_values left) (file_values right)

-- `differ 0`, the one line of two files with the same values
abbrev pub nothing_differs : List ℕ
nothing_differs = 100 ∷ 105 ∷ 102 ∷ 102 ∷ 101 ∷ 114 ∷ 32 ∷ 48 ∷ 10 ∷ []
