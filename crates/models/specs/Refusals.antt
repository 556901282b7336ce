-- The number that 01, "Refusal numbers", and 02 for the place table (13), give to each cause, where in a stream it was met, and the result that is told from what was said of it.
use Rattle.std.specs.Prelude.{◌≡◌, refl, List, [], ◌∷◌, ℕ, ◌-◌, get_or}
use Rattle.models.specs.Answers.{fault_in}
use Rattle.models.specs.declared.Fault.{Fault}
use Rattle.models.specs.declared.Refusal.{Refusal}
use Rattle.models.specs.declared.Refusal.TheVariants.{BoundNotAllowed, StateNotAllowed, OverLimit, OutputTooShort, EndsEarly, NoWindow, WindowNotAllowed, Leftover, FormNotAllowed, TimesNotAllowed, NoModel, CountsDisagree, TableDoesNotMatch}

abbrev pub number : Refusal → ℕ
number BoundNotAllowed = 1
number StateNotAllowed = 2
number OverLimit = 3
number OutputTooShort = 4
number (EndsEarly value place) = 5
number (NoWindow value place) = 6
number (WindowNotAllowed value place) = 7
number (Leftover value place) = 8
number FormNotAllowed = 9
number TimesNotAllowed = 10
number NoModel = 11
number CountsDisagree = 12
number TableDoesNotMatch = 13

-- where in a stream: the number of the value that was being read, and the bit place. "Other numbers .. show 0 and 0."
pub record Where : Type 0 where
  pub value : ℕ
  pub place : ℕ

abbrev pub at : ℕ → ℕ → Where
at value place = record { value = value; place = place }

abbrev pub nowhere : Where
nowhere = at 0 0

abbrev pub where_of : Refusal → Where
where_of BoundNotAllowed = nowhere
where_of StateNotAllowed = nowhere
where_of OverLimit = nowhere
where_of OutputTooShort = nowhere
where_of (EndsEarly value place) = at value place
where_of (NoWindow value place) = at value place
where_of (WindowNotAllowed value place) = at value place
where_of (Leftover value place) = at value place
where_of FormNotAllowed = nowhere
where_of TimesNotAllowed = nowhere
where_of NoModel = nowhere
where_of CountsDisagree = nowhere
where_of TableDoesNotMatch = nowhere

-- the fault that a refusal's answer says
abbrev pub fault_of : Refusal → Fault
fault_of r = fault_in (number r) (where_of r).value (where_of r).place

-- the causes in the order of their numbers, those of a stream at a value and a place
abbrev causes : ℕ → ℕ → List Refusal
causes value place =
    BoundNotAllowed
    ∷ StateNotAllowed
    ∷ OverLimit
    ∷ OutputTooShort
    ∷ EndsEarly value place
    ∷ NoWindow value place
    ∷ WindowNotAllowed value place
    ∷ Leftover value place
    ∷ FormNotAllowed
    ∷ TimesNotAllowed
    ∷ NoModel
    ∷ CountsDisagree
    ∷ TableDoesNotMatch
    ∷ []

-- the refusal that says a fault
abbrev pub refusal_of : Fault → Refusal
refusal_of f = get_or (causes f.value f.place) (f.number - 1) TableDoesNotMatch

pub refusal-told : (r : Refusal) → refusal_of (fault_of r) ≡ r
refusal-told BoundNotAllowed = refl
refusal-told StateNotAllowed = refl
refusal-told OverLimit = refl
refusal-told OutputTooShort = refl
refusal-told (EndsEarly value place) = refl
refusal-told (NoWindow value place) = refl
refusal-told (WindowNotAllowed value place) = refl
refusal-told (Leftover value place) = refl
refusal-told FormNotAllowed = refl
refusal-told TimesNotAllowed = refl
refusal-told NoModel = refl
refusal-told CountsDisagree = refl
refusal-told TableDoesNotMatch = refl
