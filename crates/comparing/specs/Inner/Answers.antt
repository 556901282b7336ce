-- What an inner call says: the file of a side, before its first value. Assumes nothing.
use Rattle.models.specs.Answers.{Said, answered, refused, SaidOn, answered_on, refused_on}
use Rattle.comparing.specs.declared.Half.{Half}
use Rattle.comparing.specs.declared.Side.{Side}

abbrev pub of_side : Side → Said Half → SaidOn Side Half
of_side side (answered h) = answered_on h
of_side side (refused f) = refused_on f side
