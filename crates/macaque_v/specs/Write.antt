-- Writing with a state: the stream and the rule of a writer, and the state after a list. Assumes nothing.
use Rattle.std.specs.Prelude.{Bool, List, ℕ}
use Rattle.models.specs.Causes.{bound_causes}
use Rattle.models.specs.declared.ErrorBound.{ErrorBound}
use Rattle.stream.specs.Format.{Stream, State}
use Rattle.stream.specs.Write.{wrote}
use Rattle.stream.specs.Calls.{Coder}
use Rattle.coding.specs.Keep.{keep_rule}
use Rattle.macaque_v.specs.State.{Known, stream_in, state_of, writer_of}
use Rattle.macaque_v.specs.declared.MacaqueV.{MacaqueV}

-- the stream that a writer's mode says, and its rule of what is kept
abbrev pub stream_by : MacaqueV → Stream Known
stream_by m = stream_in m.with_first

abbrev pub rule_by : MacaqueV → ℕ → ℕ → ℕ
rule_by m = keep_rule m.error_bound

-- a writer like m in another state
abbrev pub writer_at : MacaqueV → State Known → MacaqueV
writer_at m s = writer_of m.error_bound m.with_first s

-- the writer of a bound and a mode, as the theory has one: an error bound that is not allowed is refused first
abbrev pub coder_of : ErrorBound → Bool → Coder Known MacaqueV
coder_of b first = record { stream = stream_in first; rule = keep_rule b; first = bound_causes b; hold = writer_of b first; state = state_of }

abbrev pub coder_by : MacaqueV → Coder Known MacaqueV
coder_by m = coder_of m.error_bound m.with_first

abbrev pub wrote_by : MacaqueV → List ℕ → State Known
wrote_by m xs = wrote (rule_by m) (stream_by m) (state_of m) xs
