-- `ModelBuilder::selected` meets its contract. What the builder passes, each model passes. Assumes nothing.
use Rattle.models.proofs.Judged.{none, passed}
use Rattle.types.specs.Calls.{finish_causes}
use Rattle.types.specs.Choice.{choice_of}
use Rattle.types.proofs.Rooms.{finish-clears, finish-has}
use Rattle.types.proofs.ModelBuilder.selected.Goals as goal

pub swing_wins-wins-requires : goal.swing_wins-wins-requires
swing_wins-wins-requires c =
    let k = finish-has c.args.self c.args.m (none _ c.requires) in
    record { few_bytes = k.4; few_pmc_mean = k.1; few_swing = k.3 }

pub select_pmc_mean-requires : goal.select_pmc_mean-requires
select_pmc_mean-requires c =
    let b = c.args.self in
    let m = c.args.m in
    passed _ (finish-clears b m (none (finish_causes b m) c.requires)).0

pub select_swing-requires : goal.select_swing-requires
select_swing-requires c =
    let b = c.args.self in
    let m = c.args.m in
    passed _ (finish-clears b m (none (finish_causes b m) c.requires)).1

pub returns : goal.returns
unfolding choice_of
returns c = rw (c.choose.ensures, c.select_swing.ensures, c.select_pmc_mean.ensures, c.swing_wins-wins.ensures)
