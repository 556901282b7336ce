-- `place_table::judge_write` meets its contract: the bits are counted only where nothing else refuses. Assumes nothing.
use mathlib.Core.Path.{sym, ap, ◌∙◌}
use lib.ListN.{length}
use Rattle.models.specs.Calls.{said_by}
use Rattle.macaque_v.proofs.Accepting.{started}
use Rattle.place_table.proofs.judge_write.Goals as goal

pub has_room-fits-requires : goal.has_room-fits-requires
has_room-fits-requires c =
    let a = c.args in
    let s = started a.writer (length a.values.now) a.bytes (sym c.judge_start.ensures ∙ ap said_by c.in_ok-judge_start.was) in
    (c.requires, s.0, s.1)
