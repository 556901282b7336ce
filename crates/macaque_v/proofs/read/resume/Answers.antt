-- `macaque_v::read::resume` meets its contract. Assumes nothing.
use mathlib.Core.Path.{sym, ◌∙◌}
use lib.ListN.{take}
use lib.Seq.{length-take-le}
use Rattle.macaque_v.specs.State.{is_first}
use Rattle.macaque_v.specs.Inner.Read.{reopening}
use Rattle.macaque_v.proofs.Arriving.{opened-as, ends-in}
use Rattle.macaque_v.proofs.read.resume.Goals as goal

pub slice_bounds-state_at-end-2 : goal.slice_bounds-state_at-end-2
slice_bounds-state_at-end-2 c = sym (length-take-le c.args.used c.args.buffer.now c.requires.2)

pub open_behind-requires : goal.open_behind-requires
open_behind-requires c =
    let a = c.args in
    ends-in (reopening (take a.used a.buffer.now) a.count a.k a.opening) a.buffer.now a.used c.state_at-found.result c.requires.2 c.state_at-found.ensures

pub returns : goal.returns
returns c =
    let a = c.args in
    let bytes = take a.used a.buffer.now in
    let r = opened-as a.error_bound (is_first a.opening) (reopening bytes a.count a.k a.opening) bytes a.buffer.now c.state_at-found.result c.state_at-found.ensures in
    record { answer = c.open_behind.ensures.answer ∙ r.0; bytes = c.open_behind.ensures.bytes ∙ r.1 }
