-- `macaque_v::read_run::Source::last_repeats` meets its contract: the repeats that the last bits begin with stand there. Assumes nothing.
use native.Mathlib.Omega.{arith}
use Rattle.coding.proofs.Repeats.{repeats-ahead}
use Rattle.macaque_v.proofs.read_run.Source.last_repeats.Goals as goal

pub take_repeats-requires : goal.take_repeats-requires
take_repeats-requires c =
    let s = c in
    let k = c.at_once-k in
    let ahead = c.look_at_end-ahead in (
      omega arith,
      omega arith,
      omega (arith, k.ensures.wanted),
      repeats-ahead s.args.self.bytes.now s.args.self.at.place ahead.result.word ahead.result.left ahead.result.few s.args.self.readable.within ahead.ensures k.result k.ensures.top (omega (arith, k.ensures.wanted)),
      λ some. omega (arith, k.ensures.free some),
    )
