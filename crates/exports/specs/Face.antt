-- How a call crosses the C face. A bound is its kind and the bits of its f32. The answer is a fault: number 0, or that of a refusal, with its value and
-- place. The values are words at the front of a lent row, and a row that does not hold them is a lent output that is too short, 4, in its place in 01's
-- order.
use Rattle.std.specs.Prelude.{Bool, true, false, cond, ◌||◌, List, ◌++◌, [], ◌∷◌, ℕ, eqb, leb, Float, length, drop}
use Rattle.std.specs.Float.{nan, binary32, binary64}
use Rattle.std.specs.Float.Ieee.{of_bits, to_bits}
use Rattle.models.specs.Answers.{fault, no_fault, Said, answered, refused, SaidOn, stateless}
use Rattle.models.specs.declared.Fault.{Fault}
use Rattle.models.specs.declared.ErrorBound.{ErrorBound}
use Rattle.models.specs.declared.ErrorBound.TheVariants.{Lossless, Absolute, Relative}

-- kinds 0, 1 and 2 in the order of 01; a higher one is no bound, and stands for one that is not allowed
unfoldable pub bound_of : ℕ → ℕ → ErrorBound
bound_of kind bits =
    cond (eqb kind 0) Lossless
    (cond (eqb kind 1) (Absolute (of_bits binary32 bits)) (cond (eqb kind 2) (Relative (of_bits binary32 bits)) (Absolute nan)))

-- the causes that are judged before 4: 1, 2, 3, 12 and 13, of which no number is higher
abbrev pub before_short : ℕ → Bool
before_short n = leb n 3 || leb 12 n

-- the fault that is answered, where a row of `room` words is lent for `need` of them
unfoldable pub refusal_fault : ℕ → ℕ → Fault → Fault
refusal_fault need room f = cond (before_short f.number || leb need room) f (fault 4)

unfoldable pub fault_said : {A : Type 0} → ℕ → ℕ → Said A → Fault
fault_said need room (refused f) = refusal_fault need room f
fault_said need room (answered x) = cond (leb need room) no_fault (fault 4)

-- a truth as a word
abbrev pub word_of : Bool → ℕ
word_of false = 0
word_of true = 1

-- the row with the words of an answer at its front; a refusal leaves it
abbrev pub row_in : {A : Type 0} → (A → List ℕ) → List ℕ → Said A → List ℕ
row_in words row (refused f) = row
row_in words row (answered x) = words x ++ drop (length (words x)) row

-- the row afterwards, lent for `need` words: its front is set exactly if nothing is refused
unfoldable pub row_after : {A : Type 0} → ℕ → (A → List ℕ) → List ℕ → Said A → List ℕ
row_after need words row said = cond (leb need (length row)) (row_in words row said) row

-- an answer of one word: a pattern, a truth, or an f32 or f64 by its pattern
abbrev pub one_word : ℕ → List ℕ
one_word w = w ∷ []

abbrev pub word_of_truth : Bool → List ℕ
word_of_truth is = word_of is ∷ []

abbrev pub word_of32 : Float → List ℕ
word_of32 x = to_bits binary32 x ∷ []

abbrev pub word_of64 : Float → List ℕ
word_of64 x = to_bits binary64 x ∷ []

-- ---- a call with no values to hand over, but in memory that it was lent for them: the fault alone
abbrev pub plain_fault : {A : Type 0} → Said A → Fault
plain_fault (answered x) = no_fault
plain_fault (refused f) = f

-- ---- a call on a state in a row. Every row stands for some state: one that is too short, or whose words are not allowed, for one that the call behind
-- refuses with 2 in its place. So the fault is that of the call behind.

-- the fault of a row that stands for no state: 1 where a bound in it is not allowed, else 2
abbrev pub no_state : Bool → Fault
no_state allowed = fault (cond allowed 2 1)

-- a step, whose row becomes that of the state after it
abbrev pub step_fault : {S A : Type 0} → SaidOn S A → Fault
step_fault said = plain_fault (stateless said)

abbrev pub step_row : {S A : Type 0} → (A → List ℕ) → List ℕ → SaidOn S A → List ℕ
step_row words row said = row_in words row (stateless said)

-- a question, answered in `k` words of another row, `out`
abbrev pub ask_fault : {S A : Type 0} → ℕ → ℕ → SaidOn S A → Fault
ask_fault k room said = fault_said k room (stateless said)

abbrev pub ask_row : {S A : Type 0} → ℕ → (A → List ℕ) → List ℕ → SaidOn S A → List ℕ
ask_row k words out said = row_after k words out (stateless said)
