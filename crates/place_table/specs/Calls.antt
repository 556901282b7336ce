-- What the calls with a place table say and answer: the answers of the theory's calls, in MacaqueV's words, and the laws that their results are told
-- apart. Assumes nothing.
use Rattle.std.specs.Prelude.{◌≡◌, refl, List, ℕ, Result, Ok, Err}
use Rattle.models.specs.Answers.{Said, Done, answered, refused, SaidOn, answered_on, refused_on, Cause, Injective, told-apart}
use Rattle.models.specs.Refusals.{fault_of, refusal_of, refusal-told}
use Rattle.models.specs.Causes.{bound_causes}
use Rattle.models.specs.declared.ErrorBound.{ErrorBound}
use Rattle.models.specs.declared.Refusal.{Refusal}
use Rattle.models.specs.declared.Refused.{Refused}
use Rattle.stream.specs.Format.{macaque}
use Rattle.places.specs.Calls as tables
use Rattle.places.specs.Rescue as rescues
pub use Rattle.places.specs.Calls.{Beside, table_causes, check_causes}
use Rattle.macaque_v.specs.State.{stream_in, state_of, is_first, opening_value}
use Rattle.macaque_v.specs.Write.{coder_of, coder_by}
use Rattle.macaque_v.specs.declared.MacaqueV.{MacaqueV}
use Rattle.macaque_v.specs.declared.Opening.{Opening}

abbrev beside : MacaqueV → ℕ → Beside MacaqueV
beside m entries = record { writer = m; entries = entries }

-- ---- writing with a table

abbrev pub table_write_causes : MacaqueV → List ℕ → ℕ → ℕ → ℕ → List Cause
table_write_causes m xs bytes words entries = tables.table_write_causes (coder_by m) (state_of m) xs bytes words entries

unfoldable pub table_write_answer : MacaqueV → List ℕ → List ℕ → List ℕ → ℕ → SaidOn MacaqueV (Beside MacaqueV)
table_write_answer m xs buf words entries = tables.table_write_answer (coder_by m) (state_of m) xs buf words entries

unfoldable pub table_write_memory : MacaqueV → List ℕ → List ℕ → List ℕ → ℕ → List ℕ
table_write_memory m xs buf words entries = tables.table_write_memory (coder_by m) (state_of m) xs buf words entries

unfoldable pub table_write_table : MacaqueV → List ℕ → List ℕ → List ℕ → ℕ → List ℕ
table_write_table m xs buf words entries = tables.table_write_table (coder_by m) (state_of m) xs buf words entries

-- a writer and a number of entries are one beside the other
abbrev pub says_table_write : Result (MacaqueV × ℕ) (Refused MacaqueV) → SaidOn MacaqueV (Beside MacaqueV)
says_table_write (Ok (m, n)) = answered_on (beside m n)
says_table_write (Err e) = refused_on (fault_of e.cause) e.state

abbrev unsaid_write : SaidOn MacaqueV (Beside MacaqueV) → Result (MacaqueV × ℕ) (Refused MacaqueV)
unsaid_write (answered_on a) = Ok (a.writer, a.entries)
unsaid_write (refused_on f m) = Err (record { cause = refusal_of f; state = m })

write-told : (r : Result (MacaqueV × ℕ) (Refused MacaqueV)) → unsaid_write (says_table_write r) ≡ r
write-told (Ok (m, n)) = refl
write-told (Err e) = rw (refusal-told e.cause)

pub says_table_write-injective : Injective says_table_write
says_table_write-injective = told-apart says_table_write unsaid_write write-told

-- ---- reopening with a table

abbrev pub table_reopen_causes : ErrorBound → ℕ → ℕ → ℕ → ℕ → ℕ → ℕ → List Cause
table_reopen_causes b = tables.table_reopen_causes (bound_causes b)

unfoldable pub table_reopen_answer : List ℕ → ℕ → ℕ → ℕ → Opening → ErrorBound → ℕ → ℕ → Said (Beside MacaqueV)
table_reopen_answer buf used count k o b words entries = tables.table_reopen_answer (coder_of b (is_first o)) (opening_value o) buf used count k words entries

unfoldable pub table_reopen_memory : List ℕ → ℕ → ℕ → ℕ → Opening → ErrorBound → ℕ → ℕ → List ℕ
table_reopen_memory buf used count k o b words entries = tables.table_reopen_memory (coder_of b (is_first o)) (opening_value o) buf used count k words entries

abbrev pub says_table_open : Result (MacaqueV × ℕ) Refusal → Said (Beside MacaqueV)
says_table_open (Ok (m, n)) = answered (beside m n)
says_table_open (Err r) = refused (fault_of r)

abbrev unsaid_open : Said (Beside MacaqueV) → Result (MacaqueV × ℕ) Refusal
unsaid_open (answered a) = Ok (a.writer, a.entries)
unsaid_open (refused f) = Err (refusal_of f)

open_told : (r : Result (MacaqueV × ℕ) Refusal) → unsaid_open (says_table_open r) ≡ r
open_told (Ok (m, n)) = refl
open_told (Err r) = rw (refusal-told r)

pub says_table_open-injective : Injective says_table_open
says_table_open-injective = told-apart says_table_open unsaid_open open_told

-- ---- rescue with a table

abbrev pub table_rescue_causes : ErrorBound → ℕ → ℕ → ℕ → ℕ → List Cause
table_rescue_causes b = rescues.table_rescue_causes (bound_causes b)

unfoldable pub table_rescue_answer : List ℕ → ℕ → ℕ → Opening → ErrorBound → ℕ → Said (Beside MacaqueV)
table_rescue_answer buf used limit o b words = rescues.table_rescue_answer (coder_of b (is_first o)) (opening_value o) buf used limit words

unfoldable pub table_rescue_memory : List ℕ → ℕ → ℕ → Opening → ErrorBound → ℕ → List ℕ
table_rescue_memory buf used limit o b words = rescues.table_rescue_memory (coder_of b (is_first o)) (opening_value o) buf used limit words

unfoldable pub table_rescue_table : List ℕ → ℕ → ℕ → Opening → ErrorBound → List ℕ → List ℕ
table_rescue_table buf used limit o b words = rescues.table_rescue_table (coder_of b (is_first o)) (opening_value o) buf used limit words

-- ---- the check

unfoldable pub check_answer : List ℕ → ℕ → Opening → List ℕ → ℕ → Said Done
check_answer bytes count o words entries = tables.check_answer (stream_in (is_first o)) (opening_value o) bytes count words entries

-- ---- a range

abbrev pub range_causes : ℕ → ℕ → List ℕ → ℕ → ℕ → ℕ → ℕ → List Cause
range_causes = tables.range_causes macaque

unfoldable pub range_answer : List ℕ → ℕ → Opening → List ℕ → ℕ → ℕ → ℕ → ℕ → Said Done
range_answer bytes count o words entries p q room = tables.range_answer (stream_in (is_first o)) bytes count words entries p q room

unfoldable pub range_memory : List ℕ → ℕ → Opening → List ℕ → ℕ → ℕ → ℕ → List ℕ → List ℕ
range_memory bytes count o words entries p q out = tables.range_memory (stream_in (is_first o)) bytes count words entries p q out
