-- What a result says tells it apart: each map on results, and that of a refusal to its fault, takes no two to the same. Assumes nothing.
use Rattle.std.specs.Prelude.{◌≡◌, refl, Result, Ok, Err}
use Rattle.models.specs.Answers.{Said, answered, refused, SaidOn, answered_on, refused_on, Injective, told-apart}
use Rattle.models.specs.Refusals.{refusal-told, refusal_of, fault_of}
use Rattle.models.specs.Calls.{said_by, said_on}
use Rattle.models.specs.declared.Refusal.{Refusal}
use Rattle.models.specs.declared.Refused.{Refused}

-- no two refusals say the same number, value and place
pub fault_of-injective : Injective fault_of
fault_of-injective = told-apart fault_of refusal_of refusal-told

-- ---- back from what is said
abbrev unsaid : {A : Type 0} → Said A → Result A Refusal
unsaid (answered a) = Ok a
unsaid (refused f) = Err (refusal_of f)

told : {A : Type 0} (r : Result A Refusal) → unsaid (said_by r) ≡ r
told (Ok a) = refl
told (Err r) = rw (refusal-told r)

pub said_by-injective : {A : Type 0} → Injective {R = Result A Refusal} said_by
said_by-injective = told-apart said_by unsaid told

abbrev unsaid_on : {S A : Type 0} → SaidOn S A → Result A (Refused S)
unsaid_on (answered_on a) = Ok a
unsaid_on (refused_on f s) = Err (record { cause = refusal_of f; state = s })

told_on : {S A : Type 0} (r : Result A (Refused S)) → unsaid_on (said_on r) ≡ r
told_on (Ok a) = refl
told_on (Err e) = rw (refusal-told e.cause)

pub said_on-injective : {S A : Type 0} → Injective {R = Result A (Refused S)} said_on
said_on-injective = told-apart said_on unsaid_on told_on
