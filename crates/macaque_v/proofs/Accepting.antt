-- MacaqueV meets what the theory asks of a writer; and what holds where none of the causes for which a write is refused does. Assumes nothing.
use mathlib.Core.Path.{◌≡◌, refl, ap}
use mathlib.Core.Bool.{Bool, true, not}
use mathlib.Core.List.{List}
use Prim.Native.Nat.{ℕ, ◌+◌, ◌*◌, ◌^◌, ◌≤◌, ◌<◌}
use native.Mathlib.Nat.{min-le_left, min-le_right}
use native.Mathlib.Omega.{arith}
use lib.ListN.{length}
use Rattle.models.specs.Answers.{answered, verdict, NoneHolds}
use Rattle.models.specs.Limits.{most_values}
use Rattle.models.specs.Bound.{bound_allowed}
use Rattle.models.specs.declared.ErrorBound.{ErrorBound}
use Rattle.models.specs.Causes.{bound_causes}
use Rattle.stream.specs.Made.{MadeBy}
use Rattle.stream.proofs.Formats.{macaque-good}
use Rattle.stream.specs.Needs.{GoodCoder}
use Rattle.stream.proofs.Calls as calls
use Rattle.coding.proofs.Keeping.{keeps}
use Rattle.macaque_v.specs.State.{state_of, is_first, opening_value}
use Rattle.macaque_v.specs.Write.{wrote_by, coder_of, coder_by}
use Rattle.macaque_v.specs.Calls.{lent_bytes, write_causes}
use Rattle.macaque_v.specs.Inner.Calls.{start_causes}
use Rattle.macaque_v.specs.Made.{Made}
use Rattle.macaque_v.specs.declared.MacaqueV.{MacaqueV}
use Rattle.macaque_v.specs.declared.Opening.{Opening}

pub coder-good : (b : ErrorBound) (first : Bool) → GoodCoder (coder_of b first)
coder-good b first = record { format = macaque-good; keeps = keeps b 32; holds = λ s. refl; near = omega arith }

pub no-bound-refuses : (b : ErrorBound) → bound_allowed b ≡ true → NoneHolds (bound_causes b)
no-bound-refuses b ok = (ap not ok, tt)

-- ---- where no cause holds

-- the state is placed in the bytes, and there are not too many values
pub started : (m : MacaqueV) (more bytes : ℕ) → verdict (start_causes m more bytes) ≡ answered tt → (m.place ≤ 8 * bytes) × (m.length + more ≤ most_values)
started m = calls.started (coder_by m) (coder-good m.error_bound m.with_first) (state_of m)

-- and the bits after the write are in the buffer
pub accepted : (m : MacaqueV) (xs buf : List ℕ) → verdict (write_causes m xs (lent_bytes (length buf))) ≡ answered tt
    → (m.length + length xs ≤ most_values) × ((wrote_by m xs).place ≤ 8 * length buf) × (m.place + 45 * length xs < 2 ^ 64)
accepted m xs buf h =
    let a = calls.accepted (coder_by m) (coder-good m.error_bound m.with_first) (state_of m) xs (lent_bytes (length buf)) h in
    let left = min-le_left (length buf) (2 ^ 60) in
    let right = min-le_right (length buf) (2 ^ 60) in
    (a.1, omega (arith, a.2, left), omega (arith, a.0, a.1, right))

-- the spine, as the theory of streams has it
pub in-theory : {b : ErrorBound} {o : Opening} {xs buf : List ℕ} {m : MacaqueV} → Made b o xs buf m → MadeBy (coder_of b (is_first o)) (opening_value o) xs buf m
in-theory M = record { writer = M.writer; bytes = M.bytes }

pub by-theory : (b : ErrorBound) (o : Opening) {xs buf : List ℕ} {m : MacaqueV} → MadeBy (coder_of b (is_first o)) (opening_value o) xs buf m → Made b o xs buf m
by-theory b o M = record { writer = M.writer; bytes = M.bytes }
