-- Words of the promises on what is kept (document 02, W10): a kept value passes the within test against its input; and a stream whose values another rule
-- kept, as that of an earlier test or another bound. Assumes nothing.
use Rattle.std.specs.Prelude.{◌≡◌, true, List, ℕ, ◌<◌, length, take, get_or}
use Rattle.bits.specs.Bits.{whole_bytes}
use Rattle.models.specs.Answers.{answered}
use Rattle.models.specs.Calls.{within_answer}
use Rattle.models.specs.declared.ErrorBound.{ErrorBound}
use Rattle.stream.specs.Format.{State}
use Rattle.stream.specs.Write.{kept, wrote, stream_of}
use Rattle.coding.specs.Keep.{keep_rule}
use Rattle.macaque_v.specs.State.{Known, stream_in, state_of, writer_of, is_first, opening_value, opened}
use Rattle.macaque_v.specs.Read.{values_in}
use Rattle.macaque_v.specs.Made.{Resumes}
use Rattle.macaque_v.specs.declared.Opening.{Opening}

-- Value by value, vs may stand for xs: so says the call `is_value_within_error_bound`. A raw first value is its input, and passes too.
pub record KeptWithin (b : ErrorBound) (xs vs : List ℕ) : Type 0 where
  pub as_many : length vs ≡ length xs
  pub passes : (i : ℕ) → i < length xs → within_answer b (get_or xs i 0) (get_or vs i 0) ≡ answered true

-- ---- a stream that was written by another rule

-- what the rule keeps of xs, and the state after it
abbrev pub kept_by : (ℕ → ℕ → ℕ) → Opening → List ℕ → List ℕ
kept_by rule o xs = kept rule (stream_in (is_first o)) (opened o) xs

abbrev pub state_by : (ℕ → ℕ → ℕ) → Opening → List ℕ → State Known
state_by rule o xs = wrote rule (stream_in (is_first o)) (opened o) xs

-- the first `used` bytes of buf are the stream that one fresh run by the rule writes of xs
pub record WrittenBy (rule : ℕ → ℕ → ℕ) (o : Opening) (xs buf : List ℕ) (used : ℕ) : Type 0 where
  pub in_use : used ≡ whole_bytes (state_by rule o xs).place
  pub bytes : take used buf ≡ stream_of rule (stream_in (is_first o)) (opening_value o) xs

-- What is kept of such a stream: it reads as what its rule kept; reopened at k, the writer is in the state that the stream had after its first k inputs;
-- written on, it reads as the first k values and the newly kept ones, by the writer's own rule, each within the bound of its input. That the bits are those of
-- one fresh run is not said.
pub record OlderResumes (rule : ℕ → ℕ → ℕ) (b : ErrorBound) (o : Opening) (xs buf : List ℕ) (used k : ℕ) : Type 0 where
  pub reads : values_in (take used buf) (length xs) o ≡ answered (kept_by rule o xs)
  pub resumes : Resumes b o (length xs) k used buf (kept_by rule o xs)
  pub back : resumes.writer ≡ writer_of b (is_first o) (state_by rule o (take k xs))
  pub newly : (ys : List ℕ) → KeptWithin b ys (kept (keep_rule b) (stream_in (is_first o)) (state_of resumes.writer) ys)
