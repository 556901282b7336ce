-- The plain calls beneath those with a table: what nothing refuses there, and what they answer. Assumes nothing.
use mathlib.Core.Path.{◌≡◌, refl}
use mathlib.Core.Bool.{Bool}
use mathlib.Core.List.{List}
use Prim.Native.Nat.{ℕ, ◌+◌, ◌*◌, ◌^◌, ◌≤◌, ◌<◌}
use borrow.Author.Tests.{ltb-false, eqb-true, not-false}
use lib.Dec.{ltb}
use lib.ListN.{length}
use Rattle.models.specs.Answers.{NoneHolds}
use Rattle.models.specs.Limits.{most_values}
use Rattle.models.specs.declared.ErrorBound.{ErrorBound}
use Rattle.models.proofs.Judged.{passed}
use Rattle.models.proofs.Tests.{neither}
use Rattle.stream.specs.Calls.{lent_bytes}
use Rattle.stream.specs.Read.{Reopened, reopened, unopened}
use Rattle.places.specs.Table.{entries_for}
use Rattle.places.specs.Calls as theory
use Rattle.places.specs.Calls.{entries_lent}
use Rattle.macaque_v.specs.State.{Known}
use Rattle.macaque_v.specs.Write.{wrote_by, coder_of}
use Rattle.macaque_v.specs.Calls.{write_causes}
use Rattle.macaque_v.specs.Inner.Read.{resumed}
use Rattle.macaque_v.specs.declared.MacaqueV.{MacaqueV}
use Rattle.macaque_v.proofs.Accepting as plain
use Rattle.place_table.specs.Calls.{table_write_causes}
use Rattle.place_table.specs.Inner.Rescue.{beside_said}

-- ---- writing

pub record Accepted (m : MacaqueV) (xs buf : List ℕ) (words entries : ℕ) : Type 0 where
  pub few : m.length + length xs ≤ most_values
  pub room : (wrote_by m xs).place ≤ 8 * length buf
  pub near : m.place + 45 * length xs < 2 ^ 64
  pub number : entries ≡ entries_for m.length
  pub lent : entries_for (m.length + length xs) ≤ entries_lent words

pub accepted : (m : MacaqueV) (xs buf : List ℕ) (words entries : ℕ) → NoneHolds (table_write_causes m xs (lent_bytes (length buf)) words entries) → Accepted m xs buf words entries
accepted m xs buf words entries free =
    let last = neither (ltb (entries_lent words) (entries_for (m.length + length xs))) _ free.1.1.1.1.1.0 in
    let p = plain.accepted m xs buf (passed (write_causes m xs (lent_bytes (length buf))) (free.0, (free.1.0, (free.1.1.0, (last.1, tt))))) in
    record {
      few = p.0;
      room = p.1;
      near = p.2;
      number = eqb-true entries (entries_for m.length) (not-false _ free.1.1.1.1.0);
      lent = ltb-false (entries_lent words) (entries_for (m.length + length xs)) last.0;
    }

-- ---- a writer that is opened, and its entries

pub beside-resumed : (b : ErrorBound) (first : Bool) (q : Reopened Known) → beside_said (resumed b first q) ≡ theory.resumed_beside (coder_of b first) q
beside-resumed b first (reopened s) = refl
beside-resumed b first (unopened r) = refl
