-- What the writer's calls answer: the answers of the theory's calls, in MacaqueV's words. Assumes nothing.
use Rattle.std.specs.Prelude.{List, ℕ}
use Rattle.models.specs.Answers.{Said, SaidOn, Cause}
use Rattle.models.specs.declared.ErrorBound.{ErrorBound}
use Rattle.stream.specs.Calls as stream
pub use Rattle.stream.specs.Calls.{lent_bytes, too_many}
use Rattle.macaque_v.specs.State.{state_of, is_first, opening_value}
use Rattle.macaque_v.specs.Write.{coder_of, coder_by}
use Rattle.macaque_v.specs.declared.MacaqueV.{MacaqueV}
use Rattle.macaque_v.specs.declared.Opening.{Opening}

-- ---- MacaqueV::new

unfoldable pub new_answer : ErrorBound → Opening → Said MacaqueV
new_answer b o = stream.new_answer (coder_of b (is_first o)) (opening_value o)

-- ---- MacaqueV::compress_values

abbrev pub write_causes : MacaqueV → List ℕ → ℕ → List Cause
write_causes m xs bytes = stream.write_causes (coder_by m) (state_of m) xs bytes

unfoldable pub write_answer : MacaqueV → List ℕ → List ℕ → SaidOn MacaqueV MacaqueV
write_answer m xs buf = stream.write_answer (coder_by m) (state_of m) xs buf

unfoldable pub write_memory : MacaqueV → List ℕ → List ℕ → List ℕ
write_memory m xs buf = stream.write_memory (coder_by m) (state_of m) xs buf
