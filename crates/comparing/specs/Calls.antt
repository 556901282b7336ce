-- What the calls answer and what they leave in the lent line, and the map of judging with the law that it tells its results apart. Assumes nothing.
use Rattle.std.specs.Prelude.{◌≡◌, refl, Result, Ok, Err, Option, Some, None, Bool, cond, not, ◌&&◌, ◌||◌, List, [], ◌∷◌, ℕ, ◌+◌, ◌-◌, max, eqb, ltb, length}
use Rattle.models.specs.Answers.{Said, answered, refused, SaidOn, answered_on, refused_on, Cause, ◌when◌, judge, Injective, told-apart}
use Rattle.models.specs.Limits.{most_values}
use Rattle.models.specs.Refusals.{refusal-told, refusal_of, fault_of}
use Rattle.macaque_v.specs.declared.Opening.{Opening}
use Rattle.reader.specs.Calls.{opened_at, may_use, Taken, next_answer}
use Rattle.reader.specs.declared.position.Position.{Position}
use Rattle.comparing.specs.File.{file_opening, file_count, file_stream, file_values}
use Rattle.comparing.specs.Differences.{same_entry}
use Rattle.comparing.specs.Text.{difference_text, differ_text, laid}
use Rattle.comparing.specs.declared.Side.{Side}
use Rattle.comparing.specs.declared.Side.TheVariants.{Left, Right}
use Rattle.comparing.specs.declared.Half.{Half}
use Rattle.comparing.specs.declared.Pair.{Pair}
use Rattle.comparing.specs.declared.Turn.{Turn}
use Rattle.comparing.specs.declared.RefusedFile.{RefusedFile}
-- the length of an index's line, and where comparing stands behind it; or the length of the last line
pub use Rattle.comparing.specs.declared.StepLine.{StepLine}
pub use Rattle.comparing.specs.declared.StepLine.TheVariants.{On, Last}

-- ---- judge: where comparing begins, or the first file that is refused

-- before the first of so many values
abbrev pub half_of : ℕ → Opening → Half
half_of count o = record { position = opened_at o; rest = count }

abbrev pub begun_by : ℕ → Opening → Said (List ℕ) → Said Half
begun_by count o (answered vs) = answered (half_of count o)
begun_by count o (refused f) = refused f

unfoldable pub open_answer : List ℕ → Said Half
open_answer file = begun_by (file_count file) (file_opening file) (file_values file)

abbrev pub begun_pair : Half → Half → Pair
begun_pair l r = record { left = l; right = r; found = 0 }

-- "the left stream's, else the right's"
abbrev pub begun_both : Said Half → Said Half → SaidOn Side Pair
begun_both (refused f) right = refused_on f Left
begun_both (answered l) (refused f) = refused_on f Right
begun_both (answered l) (answered r) = answered_on (begun_pair l r)

unfoldable pub judge_answer : List ℕ → List ℕ → SaidOn Side Pair
judge_answer left right = begun_both (open_answer left) (open_answer right)

-- of a file that is refused, the side too
abbrev pub says_judged : {A : Type 0} → Result A RefusedFile → SaidOn Side A
says_judged (Ok a) = answered_on a
says_judged (Err e) = refused_on (fault_of e.cause) e.side

abbrev judged-back : {A : Type 0} → SaidOn Side A → Result A RefusedFile
judged-back (answered_on a) = Ok a
judged-back (refused_on f side) = Err (record { side = side; cause = refusal_of f })

judged-told : {A : Type 0} (r : Result A RefusedFile) → judged-back (says_judged r) ≡ r
judged-told (Ok a) = refl
judged-told (Err e) = rw (refusal-told e.cause)

pub says_judged-injective : {A : Type 0} → Injective {R = Result A RefusedFile} says_judged
says_judged-injective = told-apart says_judged judged-back judged-told

-- ---- what one stream has next

abbrev pub behind_value : Half → Position → Half
behind_value h p = record { position = p; rest = h.rest - 1 }

abbrev pub took_value : Half → SaidOn Position Taken → Said Turn
took_value h (answered_on t) = answered (record { entry = Some t.value; after = behind_value h t.after })
took_value h (refused_on f p) = refused f

-- its next value, as a reader answers it; nothing where no value is to come
unfoldable pub turn_of : List ℕ → Half → Said Turn
turn_of stream h = cond (eqb h.rest 0) (answered (record { entry = None; after = h })) (took_value h (next_answer stream h.position))

-- ---- step: one index of both

-- the text of an index and where comparing stands behind it, or the last line
pub data Told : Type 0 where
  further : List ℕ → Pair → Told
  finished : List ℕ → Told

abbrev pub pair_of : Turn → Turn → ℕ → Pair
pair_of a b found = record { left = a.after; right = b.after; found = found }

-- the number of the value that stands at the index: behind those of the side that has more of them
abbrev pub index_of : Pair → ℕ
index_of at = max at.left.position.at.count at.right.position.at.count

-- both sides have the same: no line, or the last one where both have ended
abbrev pub told_same : Pair → Turn → Turn → Option ℕ → Told
told_same at a b None = finished (differ_text at.found)
told_same at a b (Some v) = further [] (pair_of a b at.found)

abbrev pub told_difference : Pair → Turn → Turn → Told
told_difference at a b =
    further (difference_text (record { index = index_of at; left = a.entry; right = b.entry })) (pair_of a b (at.found + 1))

unfoldable pub told_by : Pair → Turn → Turn → Told
told_by at a b = cond (same_entry a.entry b.entry) (told_same at a b a.entry) (told_difference at a b)

abbrev pub told_both : Pair → Said Turn → Said Turn → Said Told
told_both at (refused f) right = refused f
told_both at (answered a) (refused f) = refused f
told_both at (answered a) (answered b) = answered (told_by at a b)

-- a side may be walked on: no value is to come, or a reader may stand there, in a stream of so many bytes
abbrev pub may_go : ℕ → Half → Bool
may_go bytes h = eqb h.rest 0 || may_use bytes h.position.at

-- a value is to come behind 65,536
abbrev pub is_full : Half → Bool
is_full h = not (eqb h.rest 0) && eqb h.position.at.count most_values

-- More differences than a stream may have values, or a side that may not be walked on, is 2; "a next at 65,536 is 3". Only then is anything read, the
-- left side first.
abbrev pub step_causes : ℕ → ℕ → Pair → List Cause
step_causes left right at =
    2 when (ltb most_values at.found || not (may_go left at.left) || not (may_go right at.right))
    ∷ 3 when (is_full at.left || is_full at.right)
    ∷ []

-- what both streams have at the index
abbrev pub both_turns : List ℕ → List ℕ → Pair → Said Told
both_turns left right at = told_both at (turn_of left at.left) (turn_of right at.right)

unfoldable pub step_told : List ℕ → List ℕ → Pair → Said Told
step_told left right at =
    judge refused (step_causes (length (file_stream left)) (length (file_stream right)) at) (both_turns (file_stream left) (file_stream right) at)

abbrev pub step_said : Said Told → Said StepLine
step_said (answered (further text next)) = answered (On (length text) next)
step_said (answered (finished text)) = answered (Last (length text))
step_said (refused f) = refused f

abbrev pub step_left : List ℕ → Said Told → List ℕ
step_left line (answered (further text next)) = laid text line
step_left line (answered (finished text)) = laid text line
step_left line (refused f) = line

unfoldable pub step_answer : List ℕ → List ℕ → Pair → Said StepLine
step_answer left right at = step_said (step_told left right at)

unfoldable pub step_memory : List ℕ → List ℕ → Pair → List ℕ → List ℕ
step_memory left right at line = step_left line (step_told left right at)
