-- `place_table::entry::may_start` meets its contract. Assumes nothing.
use mathlib.Core.Path.{sym, ap, ap₂, ◌∙◌}
use mathlib.Core.Bool.{Bool, ◌&&◌, ◌||◌}
use Prim.Native.Nat.{ℕ, ◌*◌}
use native.Mathlib.Omega.{arith}
use lib.Dec.{leb, ltb}
use Rattle.stream.specs.Format.{macaque, is_opening}
use Rattle.stream.specs.Calls.{lent_bytes}
use Rattle.places.specs.Table.{Entry, may_start}
use Rattle.places.specs.Calls.{entry_at}
use Rattle.places.proofs.Words.{entry-in-use, no-entry-in-use}
use Rattle.place_table.proofs.entry.may_start.Goals as goal

pub returns-then-entries-i : goal.returns-then-entries-i
returns-then-entries-i c =
    let a = c.args in
    sym (ap (may_start macaque (8 * lent_bytes a.bytes)) (no-entry-in-use a.table.now a.entries a.i c.if-entries-i.true))

pub returns : goal.returns
returns c =
    let a = c.args in
    let e : Entry = entry_at a.table.now a.i in
    ap₂ (λ (n : ℕ) (b : Bool). ltb e.last 4294967296 && (leb e.place (8 * n) && (is_opening e.win || b))) c.lent_bytes.ensures c.leaves_a_bit.ensures
    ∙ sym (ap (may_start macaque (8 * lent_bytes a.bytes)) (entry-in-use a.table.now a.entries a.i (omega arith)))
