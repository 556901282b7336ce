-- `ModelBuilder::updated` meets its contract: what nothing refuses, each model may take. Assumes nothing.
use borrow.Author.Tests.{not-false}
use Rattle.models.specs.Answers.{NoneHolds}
use Rattle.models.proofs.Judged.{none}
use Rattle.models.proofs.Tests.{and_left}
use Rattle.models.proofs.Runs.{step-allowed}
use Rattle.pmc_mean.proofs.Runs.{pmc-mean}
use Rattle.swing.proofs.Runs.{swing}
use Rattle.types.specs.Builder.{time_fits}
use Rattle.types.specs.Calls.{update_causes}
use Rattle.types.proofs.Rooms.{pmc-clears, swing-clears, pmc-leaves}
use Rattle.types.proofs.ModelBuilder.updated.Goals as goal
use Rattle.types.proofs.ModelBuilder.updated.Goals.{Start}

clear : (c : Start) → NoneHolds (update_causes c.args.self c.args.p.time)
clear c = none _ c.requires.passed

pub update_pmc_mean-requires : goal.update_pmc_mean-requires
update_pmc_mean-requires c = λ live. (step-allowed pmc-mean c.args.self.pmc_mean 0 (pmc-clears _ _ (clear (goal.at.update_pmc_mean-requires c).Start) live)).1

pub update_swing-requires : goal.update_swing-requires
unfolding time_fits
update_swing-requires c =
    let b = c.args.self in
    let t = c.args.p.time in
    let k = clear (goal.at.update_swing-requires c).Start in
    rw (c.update_pmc_mean.ensures, (pmc-leaves b c.args.value).0, (pmc-leaves b c.args.value).1)
    record { swing_fits = λ live. let j = step-allowed swing b.swing (record { time = t; bits = 0 }) (swing-clears b t k live) in (j.1, j.0); time = and_left _ _ (not-false _ k.1.1.1.0) }
