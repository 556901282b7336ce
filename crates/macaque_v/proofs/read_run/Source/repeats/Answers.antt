-- `macaque_v::read_run::Source::repeats` meets its contract: the repeats that the word ahead begins with stand there. Assumes nothing.
use native.Mathlib.Omega.{arith}
use Rattle.macaque_v.proofs.read_run.Source.repeats.Goals as goal

pub take_repeats-requires : goal.take_repeats-requires
take_repeats-requires c =
    let s = c in
    let k = c.at_once-k in (
      omega arith,
      omega arith,
      omega (arith, k.ensures.wanted),
      c.word_ahead.ensures.same k.result k.ensures.top,
      λ some. omega (arith, k.ensures.free some),
    )
