-- What a call's result says: one map for all calls, and one for those that are handed a state, each of which tells its results apart (proofs/Told). And
-- what the two public calls of this crate answer.
use Rattle.std.specs.Prelude.{Bool, ℕ, Float, Result, Ok, Err}
use Rattle.std.specs.Float.{binary32}
use Rattle.std.specs.Float.Ieee.{of_bits}
use Rattle.models.specs.Answers.{Said, answered, refused, SaidOn, answered_on, refused_on, judged}
use Rattle.models.specs.Refusals.{fault_of}
use Rattle.models.specs.Bound.{within, deviation}
use Rattle.models.specs.Causes.{bound_causes}
use Rattle.models.specs.declared.ErrorBound.{ErrorBound}
use Rattle.models.specs.declared.Refusal.{Refusal}
use Rattle.models.specs.declared.Refused.{Refused}

-- ---- what a result says
abbrev pub said_by : {A : Type 0} → Result A Refusal → Said A
said_by (Ok a) = answered a
said_by (Err r) = refused (fault_of r)

-- of a call that is handed a state
abbrev pub said_on : {S A : Type 0} → Result A (Refused S) → SaidOn S A
said_on (Ok a) = answered_on a
said_on (Err e) = refused_on (fault_of e.cause) e.state

-- ---- is_value_within_error_bound, of two patterns
unfoldable pub within_answer : ErrorBound → ℕ → ℕ → Said Bool
within_answer b real approximate =
    judged (bound_causes b) (within b (of_bits binary32 real) (of_bits binary32 approximate))

-- ---- maximum_allowed_deviation, of an f64
unfoldable pub deviation_answer : ErrorBound → Float → Said Float
deviation_answer b value = judged (bound_causes b) (deviation b value)
