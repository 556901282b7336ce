-- `listing::row_between` meets its contract: the bits ahead tell the kind. Assumes nothing.
use mathlib.Core.Path.{ap, ◌∙◌}
use mathlib.Core.Bool.{Bool, true}
use Prim.Native.Nat.{◌-◌}
use lib.Dec.{eqb}
use Rattle.macaque_v.specs.ReadRun.{ahead}
use Rattle.macaque_v.proofs.Stepping.{raw-is}
use Rattle.listing.specs.Rows.{kind_read}
use Rattle.listing.specs.declared.Fields.{Fields}
use Rattle.listing.specs.declared.Kind.{Kind}
use Rattle.listing.proofs.Finding.{kind-of-45}
use Rattle.listing.proofs.row_between.Goals as goal

pub returns : goal.returns
returns c =
    let a = c.args in
    let bs = ahead a.from.bytes.now a.from.at in
    let first = eqb a.from.at.count 0 in
    ap {B = Fields} (λ (k : Kind). record { kind = k; lead = a.next.lead; bits = a.next.place - a.from.at.place; value = a.next.last })
    (c.kind_of-kind.ensures
    ∙ ap (kind_read first) c.look-ahead.ensures
    ∙ kind-of-45 first bs
    ∙ ap (λ (r : Bool). kind_read r bs) (raw-is true a.from.at.count))
