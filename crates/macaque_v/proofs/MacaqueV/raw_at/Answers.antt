-- `macaque_v::MacaqueV::raw_at` meets its contract. Assumes nothing.
use Rattle.macaque_v.proofs.Stepping.{raw-first, raw-none}
use Rattle.macaque_v.proofs.MacaqueV.raw_at.Goals as goal

pub returns-then-self : goal.returns-then-self
returns-then-self c = let a = c.args in raw-first a.self.with_first a.self.length a.n c.if-self.true

pub returns : goal.returns
returns c = let a = c.args in raw-none a.self.with_first a.self.length a.n c.if-self.false
