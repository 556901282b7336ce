-- What is read through a row of a stream that reading a count refuses with 5 to 8: the values before the break, and then the same fault. Assumes nothing.
use Rattle.std.specs.Prelude.{◌≡◌, List, ℕ, length, take}
use Rattle.models.specs.declared.Fault.{Fault}
use Rattle.exports_reader.specs.Calls.{end_fault}
use Rattle.exports_reader.specs.Run.{next_fault, next_moved, next_out, EachNextZero}

-- through this row the next answers the fault, and leaves the row and the output as they were; or, where it is 8, the end answers it
pub record BreaksWith (bytes : List ℕ) (f : Fault) (row out : List ℕ) : Type 0 where
  pub next : ¬ (f.number ≡ 8) → (next_fault bytes row out ≡ f) × (next_moved bytes row out ≡ row) × (next_out bytes row out ≡ out)
  pub end : f.number ≡ 8 → end_fault bytes row ≡ f

-- as many nexts as the fault says answer 0, each with its value in out[0], and behind them the calls answer the fault
pub record RowReadsUntil (bytes row out : List ℕ) (f : Fault) : Type 0 where
  pub values : List ℕ
  pub long : length values ≡ f.value
  pub each : EachNextZero bytes row out values (BreaksWith bytes f)

-- the same where `sent` are the values of the stream that was sent: those that come through the row are the first of them
pub record RowReadsAsSent (bytes row out : List ℕ) (f : Fault) (sent : List ℕ) : Type 0 where
  pub until : RowReadsUntil bytes row out f
  pub as_sent : until.values ≡ take f.value sent
