-- How large a stream can get (document 02, W9): what the calls answer; and words of the promises on room. Assumes nothing.
use Rattle.std.specs.Prelude.{◌≡◌, true, List, [], ◌∷◌, ℕ, ◌+◌, ◌≤◌, ◌<◌, length}
use Rattle.bits.specs.Bits.{Below, whole_bytes}
use Rattle.models.specs.Answers.{Said, Done, answered, answered_on, refused_on, fault, judged}
use Rattle.models.specs.Bound.{bound_allowed}
use Rattle.models.specs.Causes.{count_causes}
use Rattle.models.specs.declared.ErrorBound.{ErrorBound}
use Rattle.models.specs.declared.ErrorBound.TheVariants.{Lossless}
use Rattle.stream.specs.Format.{macaque}
use Rattle.stream.specs.Size.{most_bits}
use Rattle.macaque_v.specs.State.{is_first}
use Rattle.macaque_v.specs.Calls.{new_answer, write_answer, write_memory}
use Rattle.macaque_v.specs.Read.{reopen_answer, reopen_memory}
use Rattle.macaque_v.specs.declared.MacaqueV.{MacaqueV}
use Rattle.macaque_v.specs.declared.Opening.{Opening}

-- ---- most_bits and most_bytes

-- the most bits of a stream of so many values that opens so; the opening value does not enter
abbrev pub most_of : ℕ → Opening → ℕ
most_of count o = most_bits macaque (is_first o) count

unfoldable pub most_bits_answer : ℕ → Opening → Said ℕ
most_bits_answer count o = judged (count_causes count) (most_of count o)

-- "rounded up to bytes"
unfoldable pub most_bytes_answer : ℕ → Opening → Said ℕ
most_bytes_answer count o = judged (count_causes count) (whole_bytes (most_of count o))

-- ---- "a fresh writer lent that many bits .. never refuses n values with 4", in one write or in any chain of writes, also where it is stopped and reopened
-- in between

-- one turn of a chain: values are written, or the stream is reopened behind its first k values, with a bound of its own
pub data Turn : Type 0 where
  writes : List ℕ → Turn
  reopens : ℕ → ErrorBound → Turn

-- from `have` values on, the stream never has more than n; it is reopened behind values that it has, with bounds that are allowed
abbrev pub AtMost : ℕ → ℕ → List Turn → Type 0
AtMost n have [] = Done
AtMost n have (writes ys ∷ turns) = (have + length ys ≤ n) × Below 32 ys × AtMost n (have + length ys) turns
AtMost n have (reopens k b ∷ turns) = (k ≤ have) × (bound_allowed b ≡ true) × AtMost n k turns

-- each turn is accepted by the writer, and in the bytes, that the one before left
abbrev pub AllAccepted : Opening → MacaqueV → List ℕ → List Turn → Type 0
AllAccepted o m buf [] = Done
AllAccepted o m buf (writes ys ∷ turns) = (next : MacaqueV) × (write_answer m ys buf ≡ answered_on next) × AllAccepted o next (write_memory m ys buf) turns
AllAccepted o m buf (reopens k b ∷ turns) =
    (next : MacaqueV) × (reopen_answer buf (whole_bytes m.place) m.length k o b ≡ answered next)
    × AllAccepted o next (reopen_memory buf (whole_bytes m.place) m.length k o b) turns

-- n values of which a fresh lossless writer writes as many bits as `most_bits` answers: in fewer bytes than `most_bytes` answers it refuses them with 4
pub record Fills (o : Opening) (n : ℕ) : Type 0 where
  pub values : List ℕ
  pub counted : length values ≡ n
  pub small : Below 32 values
  pub fills : (m : MacaqueV) → new_answer Lossless o ≡ answered m → (buf : List ℕ) → whole_bytes (most_of n o) ≤ length buf
      → (after : MacaqueV) × (write_answer m values buf ≡ answered_on after) × (after.place ≡ most_of n o)
  pub short : (m : MacaqueV) → new_answer Lossless o ≡ answered m → (buf : List ℕ) → length buf < whole_bytes (most_of n o) → write_answer m values buf ≡ refused_on (fault 4) m
