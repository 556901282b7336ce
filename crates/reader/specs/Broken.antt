-- What a reader hands out of a stream that reading a count refuses with 5 to 8: the values before the break, and then the same refusal; and what the
-- other calls that read it answer. Assumes nothing.
use Rattle.std.specs.Prelude.{◌≡◌, List, ℕ, ◌*◌, ◌≤◌, length, take}
use Rattle.models.specs.Answers.{refused, answered_on, refused_on, NoneHolds}
use Rattle.models.specs.declared.ErrorBound.{ErrorBound}
use Rattle.models.specs.declared.Fault.{Fault}
use Rattle.macaque_v.specs.Read.{values_in, grid_answer, grid_memory, sum_answer, reopen_causes, reopen_answer, reopen_memory}
use Rattle.macaque_v.specs.declared.Opening.{Opening}
use Rattle.reader.specs.Calls.{opened_at, next_answer, end_answer}
use Rattle.reader.specs.Run.{Run, nexts, last_answer}

-- As many nexts as the fault says are accepted, each with its value. Behind them a next is refused by the same fault, with the reader left as it was;
-- or, where that is 8, the end is.
pub record ReadsUntil (bytes : List ℕ) (o : Opening) (f : Fault) : Type 0 where
  pub run : Run
  pub accepts : nexts bytes f.value (opened_at o) ≡ answered_on run
  pub long : length run.values ≡ f.value
  pub next : ¬ (f.number ≡ 8) → next_answer bytes run.after ≡ refused_on f run.after
  pub end : f.number ≡ 8 → end_answer bytes run.after ≡ refused f

-- What every call that reads these bytes answers, asked for n values: this fault, number, value and place; and what it was lent is as it was. A grid has
-- room for the values, and of a reopening the bytes are those in use and no cause of its own holds.
pub record EveryCallSays (bytes : List ℕ) (n : ℕ) (o : Opening) (f : Fault) : Type 0 where
  pub grid : (out : List ℕ) → n ≤ length out → (grid_answer bytes n o (length out) ≡ refused f) × (grid_memory bytes n o out ≡ out)
  pub sum : sum_answer bytes n o ≡ refused f
  pub last : last_answer bytes n o ≡ refused f
  pub reopen : (b : ErrorBound) (buf : List ℕ) (used k : ℕ) → take used buf ≡ bytes → NoneHolds (reopen_causes b (length buf) used n k)
      → (reopen_answer buf used n k o b ≡ refused f) × (reopen_memory buf used n k o b ≡ buf)
  pub reader : ReadsUntil bytes o f

-- the same where `sent` are the values of the stream that was sent: those of the reader are the first of them
pub record ReadsAsSent (bytes : List ℕ) (o : Opening) (f : Fault) (sent : List ℕ) : Type 0 where
  pub until : ReadsUntil bytes o f
  pub as_sent : until.run.values ≡ take f.value sent

-- of a stream that holds the values `sent` only the first m bytes arrived: reading so many values is refused with 5, and every value whose bits all
-- arrived comes before it
pub record CutUpload (bytes : List ℕ) (n : ℕ) (o : Opening) (sent : List ℕ) (m : ℕ) : Type 0 where
  pub fault : Fault
  pub refuses : values_in (take m bytes) n o ≡ refused fault
  pub five : fault.number ≡ 5
  pub reads : ReadsAsSent (take m bytes) o fault sent
  pub all_whole : (k : ℕ) → k ≤ n → (r : Run) → nexts bytes k (opened_at o) ≡ answered_on r → r.after.at.place ≤ 8 * m → k ≤ fault.value
