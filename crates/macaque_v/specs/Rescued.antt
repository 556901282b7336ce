-- What is said of rescue, in MacaqueV's words: of a stream that a fresh writer made and whose first bytes arrived, and of any bytes at all. Assumes nothing.
use Rattle.std.specs.Prelude.{◌≡◌, Bool, List, [], ◌++◌, ◌⊎◌, ℕ, suc, ◌+◌, ◌*◌, ◌≤◌, ◌<◌, length, take}
use Rattle.bits.specs.Bits.{Below, bits_of, whole_bytes}
use Rattle.models.specs.Answers.{answered, answered_on}
use Rattle.models.specs.Limits.{most_values}
use Rattle.models.specs.declared.ErrorBound.{ErrorBound}
use Rattle.stream.specs.Read.{halt, done, step_at, read_n}
use Rattle.stream.specs.Made.{Rewritten}
use Rattle.macaque_v.specs.State.{stream_in, state_of, writer_of, is_first, opened}
use Rattle.macaque_v.specs.Calls.{write_answer, write_memory}
use Rattle.macaque_v.specs.Read.{values_in, reopen_answer, reopen_memory, rescue_answer, rescue_memory}
use Rattle.macaque_v.specs.Made.{state_over, Made}
use Rattle.macaque_v.specs.declared.MacaqueV.{MacaqueV}
use Rattle.macaque_v.specs.declared.Opening.{Opening}

-- the writer that had written just the first k of the inputs
abbrev pub writer_behind : ErrorBound → Opening → List ℕ → ℕ → MacaqueV
writer_behind b o xs k = writer_of b (is_first o) (state_over b o (take k xs))

-- Of a stream that a fresh writer made of xs the first j bytes arrived, and stand at the front of buf. Rescued with the number of its inputs for a limit:
-- `number` inputs are kept, those whose bits all arrived, and no others; the writer is the one that had written just these, and the bytes in use are those
-- of one fresh run over them. Any further list that room and count limit allow is accepted, and goes on as that run would. Where an input is missing, every
-- limit from the number kept on does the same.
pub record Saves (b : ErrorBound) (o : Opening) (xs : List ℕ) (j : ℕ) (buf : List ℕ) : Type 0 where
  pub number : ℕ
  pub few : number ≤ length xs
  pub here : (state_over b o (take number xs)).place ≤ 8 * j
  pub missing : number < length xs → 8 * j < (state_over b o (take (suc number) xs)).place
  pub most : (k : ℕ) → k ≤ length xs → (state_over b o (take k xs)).place ≤ 8 * j → k ≤ number
  pub counted : (writer_behind b o xs number).length ≡ number
  pub answers : rescue_answer buf j (length xs) o b ≡ answered (writer_behind b o xs number)
  pub made : Made b o (take number xs) (rescue_memory buf j (length xs) o b) (writer_behind b o xs number)
  pub accepts : (ys : List ℕ) → number + length ys ≤ most_values → (state_over b o (take number xs ++ ys)).place ≤ 8 * length buf
      → write_answer (writer_behind b o xs number) ys (rescue_memory buf j (length xs) o b) ≡ answered_on (writer_of b (is_first o) (state_over b o (take number xs ++ ys)))
  pub goes_on : (ys : List ℕ) (m : MacaqueV) → write_answer (writer_behind b o xs number) ys (rescue_memory buf j (length xs) o b) ≡ answered_on m
      → Made b o (take number xs ++ ys) (write_memory (writer_behind b o xs number) ys (rescue_memory buf j (length xs) o b)) m
  pub any_limit : number < length xs → (i : ℕ) → number ≤ i → i ≤ most_values
      → (rescue_answer buf j i o b ≡ rescue_answer buf j (length xs) o b) × (rescue_memory buf j i o b ≡ rescue_memory buf j (length xs) o b)

-- Of an accepted stream of n values, `all`, whoever wrote it, the first j bytes arrived, and stand at the front of buf. The writer is the one that reopening the
-- whole stream at the last value that arrived answers. Where a value is missing, so it is with every limit from the number kept on.
pub record ReopensWhole (b : ErrorBound) (o : Opening) (n : ℕ) (all : List ℕ) (j : ℕ) (buf : List ℕ) : Type 0 where
  pub number : ℕ
  pub writer : MacaqueV
  pub few : number ≤ n
  pub counted : writer.length ≡ number
  pub answers : rescue_answer buf j n o b ≡ answered writer
  pub opens : reopen_answer all (length all) n number o b ≡ answered writer
  pub here : writer.place ≤ 8 * j
  pub most : (k : ℕ) → k ≤ n → (m : MacaqueV) → reopen_answer all (length all) n k o b ≡ answered m → m.place ≤ 8 * j → k ≤ number
  pub any_limit : number < n → (i : ℕ) → number ≤ i → i ≤ most_values → rescue_answer buf j i o b ≡ answered writer

-- Of any bytes at all: m is answered where the first `used` bytes of buf are rescued. `values` were read in them, as many as the limit or up to where the bytes
-- end inside the next one. What is left reads as these, and reopened at their number it answers the same writer, and stays as it is: so all that is promised
-- of an accepted stream that is reopened holds of it.
pub record Rescues (b : ErrorBound) (o : Opening) (limit used : ℕ) (buf : List ℕ) (m : MacaqueV) : Type 0 where
  pub values : List ℕ
  pub rest : List Bool
  pub few : length values ≤ limit
  pub counted : m.length ≡ length values
  pub in_them : read_n (stream_in (is_first o)) (length values) (opened o) (bits_of (take used buf)) ≡ done values (state_of m) rest
  pub ends : (length values ≡ limit) ⊎ (step_at (stream_in (is_first o)) (state_of m) rest ≡ halt 5)
  pub reads_back : values_in (take (whole_bytes m.place) (rescue_memory buf used limit o b)) m.length o ≡ answered values
  pub reopens : reopen_answer (rescue_memory buf used limit o b) (whole_bytes m.place) m.length m.length o b ≡ answered m
  -- the cut is within the bytes that arrived; of the buffer it changes the rest of its byte, and nothing else
  pub within : m.place ≤ 8 * used
  pub leaves : Below 8 buf → Rewritten buf (rescue_memory buf used limit o b) m.place []
  pub stays : reopen_memory (rescue_memory buf used limit o b) (whole_bytes m.place) m.length m.length o b ≡ rescue_memory buf used limit o b
