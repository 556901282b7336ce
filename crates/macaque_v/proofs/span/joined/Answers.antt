-- `macaque_v::span::joined` meets its contract. Assumes nothing.
use Rattle.macaque_v.proofs.span.joined.Goals as goal

pub returns : goal.returns
returns c = cc
