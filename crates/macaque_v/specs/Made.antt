-- The spine of the promises: lent bytes and a writer that any chain of writes, stops and resumes has made. Assumes nothing.
use Rattle.std.specs.Prelude.{◌≡◌, List, ◌++◌, ℕ, ◌+◌, ◌*◌, ◌^◌, ◌≤◌, ◌<◌, T, length, take}
use Rattle.std.specs.Float.{binary32}
use Rattle.std.specs.Float.Ieee.{fits}
use Rattle.bits.specs.Bits.{Below, whole_bytes}
use Rattle.models.specs.Answers.{answered, answered_on}
use Rattle.models.specs.Limits.{most_values}
use Rattle.models.specs.declared.ErrorBound.{ErrorBound}
use Rattle.stream.specs.Write.{kept, wrote, stream_of}
use Rattle.stream.specs.Format.{State}
use Rattle.coding.specs.Keep.{keep_rule}
use Rattle.macaque_v.specs.State.{Known, stream_in, state_of, writer_of, is_first, opening_value, opened}
use Rattle.macaque_v.specs.Write.{writer_at, wrote_by}
use Rattle.macaque_v.specs.Calls.{write_answer, write_memory}
use Rattle.macaque_v.specs.Read.{values_in, reopen_answer, reopen_memory}
use Rattle.macaque_v.specs.declared.MacaqueV.{MacaqueV}
use Rattle.macaque_v.specs.declared.Opening.{Opening}

-- the state of the theory after xs
abbrev pub state_over : ErrorBound → Opening → List ℕ → State Known
state_over b o xs = wrote (keep_rule b) (stream_in (is_first o)) (opened o) xs

-- what is kept of xs
abbrev pub kept_of : ErrorBound → Opening → List ℕ → List ℕ
kept_of b o xs = kept (keep_rule b) (stream_in (is_first o)) (opened o) xs

-- the bytes in use and the writer are those of one fresh run over xs, with the bound b and the opening o
pub record Made (b : ErrorBound) (o : Opening) (xs buf : List ℕ) (m : MacaqueV) : Type 0 where
  pub writer : m ≡ writer_of b (is_first o) (state_over b o xs)
  pub bytes : take (whole_bytes m.place) buf ≡ stream_of (keep_rule b) (stream_in (is_first o)) (opening_value o) xs

-- reopening the first `used` bytes of buf, which hold xs, at k, and writing ys: what is answered, and what is left
pub record ResumesAsOne (b : ErrorBound) (o : Opening) (xs buf : List ℕ) (used k : ℕ) (ys : List ℕ) : Type 0 where
  pub opens : reopen_answer buf used (length xs) k o b ≡ answered (writer_of b (is_first o) (state_over b o (take k xs)))
  pub accepts : write_answer (writer_of b (is_first o) (state_over b o (take k xs))) ys (reopen_memory buf used (length xs) k o b)
      ≡ answered_on (writer_of b (is_first o) (state_over b o (take k xs ++ ys)))
  pub made : Made b o (take k xs ++ ys) (write_memory (writer_of b (is_first o) (state_over b o (take k xs))) ys (reopen_memory buf used (length xs) k o b))
      (writer_of b (is_first o) (state_over b o (take k xs ++ ys)))

-- what reopening at k answers where the first `used` bytes of buf read as vs, and what any accepted write from there leaves to be read
pub record Resumes (b : ErrorBound) (o : Opening) (n k used : ℕ) (buf vs : List ℕ) : Type 0 where
  pub writer : MacaqueV
  pub opens : reopen_answer buf used n k o b ≡ answered writer
  -- any further list that room and count limit allow is accepted
  pub accepts : (ys : List ℕ) → k + length ys ≤ most_values → (wrote_by writer ys).place ≤ 8 * length buf
      → write_answer writer ys (reopen_memory buf used n k o b) ≡ answered_on (writer_at writer (wrote_by writer ys))
  pub reads : (ys : List ℕ) → Below 32 ys → (after : MacaqueV) → write_answer writer ys (reopen_memory buf used n k o b) ≡ answered_on after
      → values_in (take (whole_bytes after.place) (write_memory writer ys (reopen_memory buf used n k o b))) (k + length ys) o
      ≡ answered (take k vs ++ kept (keep_rule b) (stream_in (is_first o)) (state_of writer) ys)

-- a writer whose words are of 32 bits, and whose sum is an f32, as a program holds them
pub record WordsSmall (m : MacaqueV) : Type 0 where
  pub least : m.min_value < 2 ^ 32
  pub greatest : m.max_value < 2 ^ 32
  pub last : m.last_value < 2 ^ 32
  pub leading : m.last_leading_zero_bits < 2 ^ 32
  pub trailing : m.last_trailing_zero_bits < 2 ^ 32
  pub total : T (fits binary32 m.sum)
