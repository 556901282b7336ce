-- `macaque_v::read_run::Source::draw`: the measure is how many values are left to draw.
use Rattle.macaque_v.proofs.read_run.Source.+draw.Given as goal

abbrev pub decreases-draw : goal.decreases-draw
decreases-draw l = l.n
