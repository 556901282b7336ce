-- What the calls of a coded stream answer and leave in lent memory, over any format and rule: for each, its causes of refusal in 01's order, the answer,
-- and the memory. Assumes nothing.
use Rattle.std.specs.Prelude.{Bool, not, ◌||◌, List, [], ◌∷◌, ◌++◌, ℕ, ◌+◌, ◌*◌, ◌^◌, min, leb, ltb, length, take, drop}
use Rattle.bits.specs.Bits.{bits_of}
use Rattle.models.specs.Answers.{Said, Done, answered, refused, SaidOn, Cause, ◌when◌, judge, judged, judged_on, judged_memory, fault_in}
use Rattle.models.specs.declared.Fault.{Fault}
use Rattle.stream.specs.Format.{gorilla, Gather, with_first, Stream, State, fresh, most_values, usable}
use Rattle.stream.specs.Write.{lossless, wrote, wrote_in}
use Rattle.stream.specs.Read.{StreamRefusal, Reading, done, stopped, read_all, Reopened, reopened, unopened, reopen, buffer_after}
use Rattle.stream.specs.Rescue.{rescue}

-- A writer of a stream: the stream and what it keeps, the causes that are judged before the stream's own (those of a bound, where it has one), and how
-- its words W hold a state.
pub record Coder (A W : Type 0) : Type 0 where
  pub stream : Stream A
  pub rule : ℕ → ℕ → ℕ
  pub first : List Cause
  pub hold : State A → W
  pub state : W → State A

-- How many bytes of a buffer count: all of them, up to 2 ^ 60. No machine holds more, and of more a place of bits would be no number of 64 bits.
abbrev pub lent_bytes : ℕ → ℕ
lent_bytes n = min n (2 ^ 60)

-- "A total over 65,536 is 3."
abbrev pub too_many : ℕ → ℕ → Bool
too_many n more = ltb most_values (n + more)

-- what a stream's own refusal says: its number, the value and the place
abbrev pub fault_at : StreamRefusal → Fault
fault_at f = fault_in f.no f.value f.place

-- ---- the values of a stream, or its refusal

abbrev pub values_read : {A : Type 0} → Reading A → Said (List ℕ)
values_read (done vs s rest) = answered vs
values_read (stopped f) = refused (fault_at f)

-- "Reading takes exactly the stream's bytes and a count"
abbrev pub values_in : {A : Type 0} → Stream A → ℕ → List ℕ → ℕ → Said (List ℕ)
values_in S l bytes count = values_read (read_all S count (fresh S l) (bits_of bytes))

-- ---- grid

abbrev pub grid_causes : ℕ → ℕ → List Cause
grid_causes count room = 3 when ltb most_values count ∷ 4 when ltb room count ∷ []

abbrev pub drawn : Said (List ℕ) → Said Done
drawn (answered vs) = answered tt
drawn (refused n) = refused n

-- the values stand in the first places, and the others keep what they held
abbrev pub drawn_in : List ℕ → Said (List ℕ) → List ℕ
drawn_in out (answered vs) = vs ++ drop (length vs) out
drawn_in out (refused n) = out

abbrev pub grid_answer : {A : Type 0} → Stream A → ℕ → List ℕ → ℕ → ℕ → Said Done
grid_answer S l bytes count room = judge refused (grid_causes count room) (drawn (values_in S l bytes count))

abbrev pub grid_memory : {A : Type 0} → Stream A → ℕ → List ℕ → ℕ → List ℕ → List ℕ
grid_memory S l bytes count out = judged_memory out (grid_causes count (length out)) (drawn_in out (values_in S l bytes count))

-- the state after the first k values of the bytes in use: "The whole stream is checked first."
abbrev pub reopening : {A : Type 0} → Stream A → ℕ → List ℕ → ℕ → ℕ → Reopened A
reopening S l bytes count k = reopen S count k (fresh S l) (bits_of bytes)

-- "k above count, used length above buffer"
abbrev pub reopen_causes : List Cause → ℕ → ℕ → ℕ → ℕ → List Cause
reopen_causes first room used count k = first ++ (3 when ltb most_values count ∷ 12 when (ltb count k || ltb room used) ∷ [])

-- the state after the values that arrived whole in the bytes in use, `limit` at most
abbrev pub rescuing : {A : Type 0} → Stream A → ℕ → List ℕ → ℕ → Reopened A
rescuing S l bytes limit = rescue S limit (fresh S l) (bits_of bytes)

-- of a rescue: a limit above the most values, used length above buffer
abbrev pub rescue_causes : List Cause → ℕ → ℕ → ℕ → List Cause
rescue_causes first room used limit = first ++ (3 when ltb most_values limit ∷ 12 when ltb room used ∷ [])

module _ {A W : Type 0} (C : Coder A W) where
  -- ---- a fresh writer

  abbrev pub new_answer : ℕ → Said W
  new_answer l = judged C.first (C.hold (fresh C.stream l))

  -- ---- writing

  abbrev pub start_causes : State A → ℕ → ℕ → List Cause
  start_causes s more bytes = C.first ++ (2 when not (usable C.stream.format bytes s) ∷ 3 when too_many s.count more ∷ [])

  -- "A write is refused with 4 exactly if the bits after it exceed 8 × buffer length."
  abbrev pub write_causes : State A → List ℕ → ℕ → List Cause
  write_causes s xs bytes =
      C.first
      ++ (2 when not (usable C.stream.format bytes s)
      ∷ 3 when too_many s.count (length xs)
      ∷ 4 when not (leb (wrote C.rule C.stream s xs).place (8 * bytes))
      ∷ [])

  abbrev pub write_answer : State A → List ℕ → List ℕ → SaidOn W W
  write_answer s xs buf = judged_on (C.hold s) (write_causes s xs (lent_bytes (length buf))) (C.hold (wrote C.rule C.stream s xs))

  abbrev pub write_memory : State A → List ℕ → List ℕ → List ℕ
  write_memory s xs buf = judged_memory buf (write_causes s xs (lent_bytes (length buf))) (wrote_in C.rule C.stream s xs buf)

  -- ---- reopening

  abbrev pub resumed : Reopened A → Said W
  resumed (reopened s) = answered (C.hold s)
  resumed (unopened f) = refused (fault_at f)

  abbrev pub reopen_answer : ℕ → List ℕ → ℕ → ℕ → ℕ → Said W
  reopen_answer l buf used count k = judge refused (reopen_causes C.first (length buf) used count k) (resumed (reopening C.stream l (take used buf) count k))

  -- "It zeroes the bits after the bit place of k in a byte that this cuts, and nothing else."
  abbrev pub reopen_memory : ℕ → List ℕ → ℕ → ℕ → ℕ → List ℕ
  reopen_memory l buf used count k =
      judged_memory buf (reopen_causes C.first (length buf) used count k) (buffer_after (reopening C.stream l (take used buf) count k) buf)

  -- ---- rescue: what stands behind the last whole value refuses nothing

  abbrev pub rescue_answer : ℕ → List ℕ → ℕ → ℕ → Said W
  rescue_answer l buf used limit = judge refused (rescue_causes C.first (length buf) used limit) (resumed (rescuing C.stream l (take used buf) limit))

  abbrev pub rescue_memory : ℕ → List ℕ → ℕ → ℕ → List ℕ
  rescue_memory l buf used limit =
      judged_memory buf (rescue_causes C.first (length buf) used limit) (buffer_after (rescuing C.stream l (take used buf) limit) buf)

-- ---- the stream of the Gorilla paper, of 64-bit values: lossless and with a first value. No call writes it yet.

abbrev pub gorilla_stream : {A : Type 0} → Gather A → Stream A
gorilla_stream G = record { format = gorilla; mode = with_first; gather = G }

abbrev pub gorilla_coder : {A : Type 0} → Gather A → Coder A (State A)
gorilla_coder G = record { stream = gorilla_stream G; rule = lossless; first = []; hold = λ s. s; state = λ s. s }
