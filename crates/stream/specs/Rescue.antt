-- Rescue: going on from what arrived of a stream that was cut at any byte. Assumes nothing.
use Rattle.std.specs.Prelude.{Bool, cond, List, [], ℕ, zero, suc, eqb, drop}
use Rattle.stream.specs.Format.{Window, Stream, State, advance}
use Rattle.stream.specs.Read.{Step, got, halt, Reading, done, stopped, push, step_at, Reopened, state_read}

-- 5 says that the bits end inside a value, which is a cut: reading ends before that value. Any other number is damage, and refuses with the value and its
-- place.
abbrev pub ends_before : {A : Type 0} → State A → List Bool → ℕ → Reading A
ends_before s bs n = cond (eqb n 5) (done [] s bs) (stopped (record { no = n; value = s.count; place = s.place }))

abbrev pub follow_whole : {A : Type 0} → State A → List Bool → Step → (ℕ → Window → ℕ → Reading A) → Reading A
follow_whole s bs (got v win used) k = k v win used
follow_whole s bs (halt n) k = ends_before s bs n

-- the values that arrived whole, but no more than n, from the state s, whose bits come first in the list
unfoldable pub read_whole : {A : Type 0} → Stream A → ℕ → State A → List Bool → Reading A
read_whole S zero s bs = done [] s bs
read_whole S (suc n) s bs = follow_whole s bs (step_at S s bs) (λ v win used. push v (read_whole S n (advance S s v win used) (drop used bs)))

-- the state after them, whose count is how many they are. What is left of the buffer is `buffer_after`, as of a reopening: the bits behind its place are
-- zeroed in the byte that this cuts, and nothing else; damage leaves the buffer as it is.
abbrev pub rescue : {A : Type 0} → Stream A → ℕ → State A → List Bool → Reopened A
rescue S n s bs = state_read (read_whole S n s bs)
