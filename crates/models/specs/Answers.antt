-- What a call answers, in the paper's terms: its values, or the fault that refuses it. And when a contract allows one result only.
use Rattle.std.specs.Prelude.{◌≡◌, Bool, true, false, cond, List, [], ◌∷◌, ℕ}
use Rattle.std.proofs.Common.{sym, ap, ◌∙◌}
pub use Rattle.models.specs.declared.Fault.{Fault}
-- what a step answers: whether the value fits, and the state that it hands back
pub use Rattle.models.specs.declared.Stepped.{Stepped}

-- what a refusal says: the number of its cause, and of a stream's own, 5 to 8, the number of the value that was being read, counted from 0, and the bit
-- place. "Other numbers .. show 0 and 0."
abbrev pub fault_in : ℕ → ℕ → ℕ → Fault
fault_in n value place = record { number = n; value = value; place = place }

abbrev pub fault : ℕ → Fault
fault n = fault_in n 0 0

-- what is said where nothing is refused
abbrev pub no_fault : Fault
no_fault = fault 0

-- of a call whose answer is the fault alone, as through the C face
abbrev pub itself : Fault → Fault
itself f = f

pub data Said (A : Type 0) : Type 0 where
  answered : A → Said A
  refused : Fault → Said A

-- the same of a call that is handed a state, which a refusal hands back
pub data SaidOn (S A : Type 0) : Type 0 where
  answered_on : A → SaidOn S A
  refused_on : Fault → S → SaidOn S A

-- a refusal on a state, which is handed back; and one that leaves a thing as it was
abbrev pub refusing : {S A : Type 0} → S → Fault → SaidOn S A
refusing s f = refused_on f s

abbrev pub keeping : {X : Type 0} → X → Fault → X
keeping x f = x

-- "each step hands the fitted state back", "a failed fit changes nothing"
abbrev pub fitting : {S : Type 0} → S → Stepped S
fitting s = record { fits = true; state = s }

abbrev pub failing : {S : Type 0} → S → Stepped S
failing s = record { fits = false; state = s }

-- the state that a step hands back, also where it is refused
abbrev pub state_after : {S : Type 0} → SaidOn S (Stepped S) → S
state_after (answered_on t) = t.state
state_after (refused_on f s) = s

-- an answer without the state that a refusal hands back
abbrev pub stateless : {S A : Type 0} → SaidOn S A → Said A
stateless (answered_on a) = answered a
stateless (refused_on f s) = refused f

-- ---- the causes for which a call is refused, in 01's order: of those that hold the first is given

infix 68 ◌when◌
pub data Cause : Type 0 where
  ◌when◌ : ℕ → Bool → Cause

-- `refuse` of the fault of the first cause that holds, and `x` where none does
unfoldable pub judge : {X : Type 0} → (Fault → X) → List Cause → X → X
judge refuse [] x = x
judge refuse (n when holds ∷ causes) x = cond holds (refuse (fault n)) (judge refuse causes x)

abbrev pub judged : {A : Type 0} → List Cause → A → Said A
judged causes a = judge refused causes (answered a)

abbrev pub judged_on : {S A : Type 0} → S → List Cause → A → SaidOn S A
judged_on s causes a = judge (refusing s) causes (answered_on a)

-- whether a call is refused, and by what: a call that answers no value says only this
abbrev pub Done : Type 0
Done = Unit {0}

abbrev pub verdict : List Cause → Said Done
verdict causes = judged causes tt

-- every cause of a list fails
abbrev pub NoneHolds : List Cause → Type 0
NoneHolds [] = Done
NoneHolds (n when holds ∷ causes) = (holds ≡ false) × NoneHolds causes

-- lent memory: untouched by a refused call
abbrev pub judged_memory : {A : Type 0} → List A → List Cause → List A → List A
judged_memory before causes after = judge (keeping before) causes after

-- ---- one result: where `says` takes no two results to the same answer, the contract `says r ≡ answer` allows one

abbrev pub Injective : {R S : Type 0} → (R → S) → Type 0
Injective {R} says = (r t : R) → says r ≡ says t → r ≡ t

pub one-result : {R S : Type 0} (says : R → S) → Injective says → (answer : S) (r t : R) → says r ≡ answer → says t ≡ answer → r ≡ t
one-result says injective answer r t p q = injective r t (p ∙ sym q)

-- it is so where the result can be told from what is said
pub told-apart : {R S : Type 0} (says : R → S) (back : S → R) → ((r : R) → back (says r) ≡ r) → Injective says
told-apart says back undone r t e = sym (undone r) ∙ ap back e ∙ undone t

pub fault-injective : Injective fault
fault-injective n k e = ap (λ (f : Fault). f.number) e
