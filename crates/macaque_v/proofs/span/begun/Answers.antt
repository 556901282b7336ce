-- `macaque_v::span::begun` meets its contract. Assumes nothing.
use Rattle.macaque_v.proofs.span.begun.Goals as goal

pub returns : goal.returns
returns c = cc
