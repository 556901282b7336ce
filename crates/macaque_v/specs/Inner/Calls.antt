-- Words of inner contracts and of proofs, beside specs/Calls. Assumes nothing.
use Rattle.std.specs.Prelude.{List, ℕ}
use Rattle.models.specs.Answers.{Cause}
use Rattle.stream.specs.Calls as stream
use Rattle.macaque_v.specs.State.{state_of}
use Rattle.macaque_v.specs.Write.{coder_by}
use Rattle.macaque_v.specs.declared.MacaqueV.{MacaqueV}

-- ---- MacaqueV::compress_values

abbrev pub start_causes : MacaqueV → ℕ → ℕ → List Cause
start_causes m more bytes = stream.start_causes (coder_by m) (state_of m) more bytes
