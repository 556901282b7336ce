-- What is said of rescue: of any accepted stream of which the first bytes arrived, of one that a fresh writer made, and of any bytes at all. Assumes nothing.
use Rattle.std.specs.Prelude.{◌≡◌, Bool, List, [], ◌++◌, ◌⊎◌, ℕ, suc, ◌+◌, ◌*◌, ◌≤◌, ◌<◌, length, take}
use Rattle.bits.specs.Bits.{Below, bits_of, whole_bytes}
use Rattle.models.specs.Answers.{answered, answered_on}
use Rattle.models.specs.declared.Fault.{Fault}
use Rattle.stream.specs.Format.{Stream, State, fresh, most_values}
use Rattle.stream.specs.Read.{halt, StreamRefusal, done, stopped, step_at, read_n, reopened, reopen}
use Rattle.stream.specs.Rescue.{rescue}
use Rattle.stream.specs.Calls.{Coder, fault_at, values_in, write_answer, write_memory, reopen_answer, reopen_memory, rescue_answer, rescue_memory}
use Rattle.stream.specs.Made.{MadeBy, state_over, Rewritten}

-- Of an accepted stream of n values, even one that this writer would not write, the first j bytes arrived: rescue is reopening the whole stream at the
-- last value whose bits are all among them. Where a value is missing, so it is with every limit from the number kept on.
pub record ReopensWhole {A : Type 0} (S : Stream A) (l n : ℕ) (all : List ℕ) (j : ℕ) : Type 0 where
  pub number : ℕ
  pub state : State A
  pub few : number ≤ n
  pub answers : rescue S n (fresh S l) (bits_of (take j all)) ≡ reopened state
  pub opens : reopen S n number (fresh S l) (bits_of all) ≡ reopened state
  pub counted : state.count ≡ number
  pub here : state.place ≤ 8 * j
  pub most : (k : ℕ) → k ≤ n → (t : State A) → reopen S n k (fresh S l) (bits_of all) ≡ reopened t → t.place ≤ 8 * j → k ≤ number
  pub any_limit : number < n → (i : ℕ) → number ≤ i → rescue S i (fresh S l) (bits_of (take j all)) ≡ reopened state

-- The same of the call: of an accepted stream of n values, `all`, the first j bytes arrived, and stand at the front of buf. The writer is the one that reopening the
-- whole stream at the last value that arrived answers, with the same bound.
pub record ReopensWholeBy {A W : Type 0} (C : Coder A W) (l n : ℕ) (all : List ℕ) (j : ℕ) (buf : List ℕ) : Type 0 where
  pub number : ℕ
  pub state : State A
  pub few : number ≤ n
  pub counted : state.count ≡ number
  pub answers : rescue_answer C l buf j n ≡ answered (C.hold state)
  pub opens : reopen_answer C l all (length all) n number ≡ answered (C.hold state)
  pub here : state.place ≤ 8 * j
  pub most : (k : ℕ) → k ≤ n → (m : W) → reopen_answer C l all (length all) n k ≡ answered m → (C.state m).place ≤ 8 * j → k ≤ number
  pub any_limit : number < n → (i : ℕ) → number ≤ i → i ≤ most_values → rescue_answer C l buf j i ≡ answered (C.hold state)

-- Of a stream that a fresh writer made of xs the first j bytes arrived, and stand at the front of buf. Rescued with the number of its inputs for a limit:
-- `number` inputs are kept, those whose bits all arrived, and no others; the writer is the one that had written just these, and the bytes in use are those
-- of one fresh run over them. Any further list that room and count limit allow is accepted, and goes on as that run would. Where an input is missing, every
-- limit from the number kept on does the same.
pub record Saves {A W : Type 0} (C : Coder A W) (l : ℕ) (xs : List ℕ) (j : ℕ) (buf : List ℕ) : Type 0 where
  pub number : ℕ
  pub few : number ≤ length xs
  pub here : (state_over C l (take number xs)).place ≤ 8 * j
  pub missing : number < length xs → 8 * j < (state_over C l (take (suc number) xs)).place
  pub most : (k : ℕ) → k ≤ length xs → (state_over C l (take k xs)).place ≤ 8 * j → k ≤ number
  pub counted : (state_over C l (take number xs)).count ≡ number
  pub answers : rescue_answer C l buf j (length xs) ≡ answered (C.hold (state_over C l (take number xs)))
  pub made : MadeBy C l (take number xs) (rescue_memory C l buf j (length xs)) (C.hold (state_over C l (take number xs)))
  pub accepts : (ys : List ℕ) → number + length ys ≤ most_values → (state_over C l (take number xs ++ ys)).place ≤ 8 * length buf
      → write_answer C (state_over C l (take number xs)) ys (rescue_memory C l buf j (length xs)) ≡ answered_on (C.hold (state_over C l (take number xs ++ ys)))
  pub goes_on : (ys : List ℕ) (m : W) → write_answer C (state_over C l (take number xs)) ys (rescue_memory C l buf j (length xs)) ≡ answered_on m
      → MadeBy C l (take number xs ++ ys) (write_memory C (state_over C l (take number xs)) ys (rescue_memory C l buf j (length xs))) m
  pub any_limit : number < length xs → (i : ℕ) → number ≤ i → i ≤ most_values
      → (rescue_answer C l buf j i ≡ rescue_answer C l buf j (length xs)) × (rescue_memory C l buf j i ≡ rescue_memory C l buf j (length xs))

-- Of any bytes at all: m is answered where the first `used` bytes of buf are rescued. `values` were read in them, as many as the limit or up to where the bytes
-- end inside the next one. What is left reads as these, and reopened at their number it answers the same writer, and stays as it is: so all that is promised
-- of an accepted stream that is reopened holds of it.
pub record Rescues {A W : Type 0} (C : Coder A W) (l limit used : ℕ) (buf : List ℕ) (m : W) : Type 0 where
  pub values : List ℕ
  pub state : State A
  pub rest : List Bool
  pub few : length values ≤ limit
  pub held : m ≡ C.hold state
  pub counted : state.count ≡ length values
  pub in_them : read_n C.stream (length values) (fresh C.stream l) (bits_of (take used buf)) ≡ done values state rest
  pub ends : (length values ≡ limit) ⊎ (step_at C.stream state rest ≡ halt 5)
  pub reads_back : values_in C.stream l (take (whole_bytes state.place) (rescue_memory C l buf used limit)) (length values) ≡ answered values
  pub reopens : reopen_answer C l (rescue_memory C l buf used limit) (whole_bytes state.place) (length values) (length values) ≡ answered m
  -- the cut is within the bytes that arrived; of the buffer it changes the rest of its byte, and nothing else
  pub within : state.place ≤ 8 * used
  pub leaves : Below 8 buf → Rewritten buf (rescue_memory C l buf used limit) state.place []
  pub stays : reopen_memory C l (rescue_memory C l buf used limit) (whole_bytes state.place) (length values) (length values) ≡ rescue_memory C l buf used limit

-- What is refused in the bytes themselves: what a reading of so many values refuses, with its value and place, and it is 6 or 7. So a cut is no refusal, nor
-- is what stands behind the last value.
pub record MeetsDamage {A : Type 0} (S : Stream A) (l limit : ℕ) (bytes : List ℕ) (f : Fault) : Type 0 where
  pub refusal : StreamRefusal
  pub reads : read_n S limit (fresh S l) (bits_of bytes) ≡ stopped refusal
  pub told : f ≡ fault_at refusal
  pub number : (f.number ≡ 6) ⊎ (f.number ≡ 7)
