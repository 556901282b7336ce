-- What a caller prints who judges two files first, and then prints the one line of a refusal; or the line of each step in turn up to the last one, each
-- through one array of 80 bytes. Each part is what the contract of the call says that it answers and leaves in the array. Assumes nothing.
use Rattle.std.specs.Prelude.{List, [], ◌++◌, ℕ, zero, suc, ◌+◌, length, take}
use Rattle.models.specs.Answers.{Said, answered, refused, SaidOn, answered_on, refused_on}
use Rattle.models.specs.Limits.{most_values}
use Rattle.listing.specs.Printed.{line_printed}
use Rattle.comparing.specs.Text.{side_text}
use Rattle.comparing.specs.Calls.{judge_answer, StepLine, On, Last, step_answer, step_memory}
use Rattle.comparing.specs.declared.Side.{Side}
use Rattle.comparing.specs.declared.Pair.{Pair}

abbrev pub step_printed : Said StepLine → List ℕ → (Pair → List ℕ) → List ℕ
step_printed (answered (On length next)) line rest = take length line ++ rest next
step_printed (answered (Last length)) line rest = take length line
step_printed (refused f) line rest = []

-- n steps at the most
unfoldable pub steps_printed : ℕ → List ℕ → List ℕ → Pair → List ℕ → List ℕ
steps_printed zero left right at line = []
steps_printed (suc n) left right at line =
    step_printed (step_answer left right at) (step_memory left right at line) (λ next. steps_printed n left right next (step_memory left right at line))

-- a step for each value of the longest stream, and the last one
abbrev pub printed_both : List ℕ → List ℕ → List ℕ → SaidOn Side Pair → List ℕ
printed_both left right line (answered_on at) = steps_printed (most_values + 1) left right at line
printed_both left right line (refused_on f side) = line_printed (side_text side f) line

unfoldable pub printed : List ℕ → List ℕ → List ℕ → List ℕ
printed left right line = printed_both left right line (judge_answer left right)
