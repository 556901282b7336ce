-- `macaque_v::MacaqueV::place_after` meets its contract. Assumes nothing.
use borrow.Author.Rules.{rules}
use mathlib.Core.Path.{◌≡◌, ap}
use mathlib.Core.Bool.{true, false, false≢true}
use Rattle.macaque_v.specs.declared.MacaqueV.{MacaqueV}
use Rattle.macaque_v.proofs.MacaqueV.place_after.Goals as goal

pub write_noting-end-requires : goal.write_noting-end-requires
write_noting-end-requires c = (search rules, (λ (e : false ≡ true). absurd (false≢true e)), search rules, λ (e : false ≡ true). absurd (false≢true e))

pub returns : goal.returns
returns c = ap (λ (w : MacaqueV). w.place) c.write_noting-end.ensures.state
