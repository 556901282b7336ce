-- What lent bytes and a state have in common while a stream is written, stopped and resumed. Assumes nothing.
use Rattle.std.specs.Prelude.{◌≡◌, Bool, true, false, List, ◌++◌, ℕ, ◌+◌, ◌*◌, ◌≤◌, length, take, drop, replicate}
use Rattle.bits.specs.Bits.{Below, bits_of, whole_bytes, up, padding, padded}
use Rattle.models.specs.Answers.{answered, answered_on}
use Rattle.stream.specs.Format.{gather_from, Stream, State, fresh, most_values, usable}
use Rattle.stream.specs.Write.{kept, wrote, wrote_in, stream_of}
use Rattle.stream.specs.Read.{done, read_all, reopened, reopen, buffer_after}
use Rattle.stream.specs.Calls.{Coder, values_in, write_answer, write_memory, reopen_answer, reopen_memory}

-- the bytes in use, up to the state's place, and the state are those of one fresh run over xs
pub record Made {A : Type 0} (rule : ℕ → ℕ → ℕ) (S : Stream A) (l : ℕ) (xs : List ℕ) (buf : List ℕ) (s : State A) : Type 0 where
  pub state : s ≡ wrote rule S (fresh S l) xs
  pub bytes : take (whole_bytes s.place) buf ≡ stream_of rule S l xs

-- the state after xs
abbrev pub state_over : {A W : Type 0} → Coder A W → ℕ → List ℕ → State A
state_over C l xs = wrote C.rule C.stream (fresh C.stream l) xs

-- the same of a writer: the spine of the promises, which any chain of writes, stops and resumes has
pub record MadeBy {A W : Type 0} (C : Coder A W) (l : ℕ) (xs buf : List ℕ) (m : W) : Type 0 where
  pub writer : m ≡ C.hold (state_over C l xs)
  pub bytes : take (whole_bytes (C.state m).place) buf ≡ stream_of C.rule C.stream l xs

-- reopening the first `used` bytes of buf, which hold xs, at k, and writing ys: what is answered, and what is left
pub record ResumesAsOne {A W : Type 0} (C : Coder A W) (l : ℕ) (xs buf : List ℕ) (used k : ℕ) (ys : List ℕ) : Type 0 where
  pub opens : reopen_answer C l buf used (length xs) k ≡ answered (C.hold (state_over C l (take k xs)))
  pub accepts : write_answer C (state_over C l (take k xs)) ys (reopen_memory C l buf used (length xs) k) ≡ answered_on (C.hold (state_over C l (take k xs ++ ys)))
  pub made : MadeBy C l (take k xs ++ ys) (write_memory C (state_over C l (take k xs)) ys (reopen_memory C l buf used (length xs) k)) (C.hold (state_over C l (take k xs ++ ys)))

-- what reopening at k answers where the first `used` bytes of buf read as vs, and what any accepted write from there leaves to be read
pub record Resumes {A W : Type 0} (C : Coder A W) (l n k used : ℕ) (buf vs : List ℕ) : Type 0 where
  pub state : State A
  pub opens : reopen_answer C l buf used n k ≡ answered (C.hold state)
  -- any further list that room and count limit allow is accepted
  pub accepts : (ys : List ℕ) → k + length ys ≤ most_values → (wrote C.rule C.stream state ys).place ≤ 8 * length buf
      → write_answer C state ys (reopen_memory C l buf used n k) ≡ answered_on (C.hold (wrote C.rule C.stream state ys))
  pub reads : (ys : List ℕ) → Below C.stream.format.width ys → (after : W) → write_answer C state ys (reopen_memory C l buf used n k) ≡ answered_on after
      → values_in C.stream l (take (whole_bytes (C.state after).place) (write_memory C state ys (reopen_memory C l buf used n k))) (k + length ys)
      ≡ answered (take k vs ++ kept C.rule C.stream state ys)

-- ---- any accepted stream, and what the calls do to lent bytes

-- what reopening answers where the first `used` bytes of buf hold a stream of n values that reads as vs
pub record Resumed {A : Type 0} (rule : ℕ → ℕ → ℕ) (S : Stream A) (l n k used : ℕ) (buf vs : List ℕ) : Type 0 where
  pub state : State A
  pub opens : reopen S n k (fresh S l) (bits_of (take used buf)) ≡ reopened state
  -- it may be used, its place is within the stream, and its count is k
  pub may_be_used : usable S.format (length buf) state ≡ true
  pub placed : state.place ≤ 8 * used
  pub counted : state.count ≡ k
  -- it has gathered over the first k values
  pub seen : state.seen ≡ gather_from S.gather S.mode 0 S.gather.none (take k vs)
  -- cut, and ys written on: the bytes in use read as the first k values and then the newly kept ones
  pub reads : (ys : List ℕ) → Below S.format.width ys → (wrote rule S state ys).place ≤ 8 * length buf
      → read_all S (k + length ys) (fresh S l)
      (bits_of (take (whole_bytes (wrote rule S state ys).place) (wrote_in rule S state ys (buffer_after (reopened state) buf))))
      ≡ done (take k vs ++ kept rule S state ys) (wrote rule S state ys) (replicate (padding (wrote rule S state ys).place) false)

-- the bits before p stay, `new` follows them, then zeros to the end of the byte, and the bytes behind stay
pub record Rewritten (old now : List ℕ) (p : ℕ) (new : List Bool) : Type 0 where
  pub long : length now ≡ length old
  pub before : take p (bits_of now) ≡ take p (bits_of old)
  pub filled : take (up (p + length new)) (bits_of now) ≡ padded (take p (bits_of old) ++ new)
  pub behind : drop (whole_bytes (p + length new)) now ≡ drop (whole_bytes (p + length new)) old
