-- `macaque_v::read_run::Source::one_more` meets its contract: the bits ahead hold the value. Assumes nothing.
use mathlib.Core.Path.{◌≡◌, refl, sym, ap, ◌∙◌}
use mathlib.Core.Bool.{Bool, true, false, not, ◌&&◌}
use native.Mathlib.Omega.{arith}
use lib.Dec.{eqb}
use lib.ListN.{take, drop}
use Rattle.bits.specs.Bits.{bits_of}
use Rattle.stream.specs.Format.{opening, macaque, window_in}
use Rattle.stream.specs.Read.{read_one}
use Rattle.coding.specs.Inner.Ahead.{says_decoded}
use Rattle.macaque_v.proofs.Passing.{passed-on}
use Rattle.macaque_v.proofs.Stepping.{raw-is}
use Rattle.macaque_v.proofs.ReadingRun.{next-is, used-most, readable-next}
use Rattle.macaque_v.proofs.read_run.Source.one_more.Goals as goal
use Rattle.macaque_v.proofs.read_run.Source.one_more.Goals.{After-decode, Start}

-- what was decoded is what stands at the place
step : (c : After-decode)
    → read_one macaque (c.args.self.first && eqb c.args.self.at.count 0)
    (window_in c.args.self.at.lead c.args.self.at.trail) c.args.self.at.last
    (take 45 (drop c.args.self.at.place (bits_of c.args.self.bytes.now)))
    ≡ says_decoded c.decode.result
step c =
    let a = c.args in
    sym (c.decode.ensures
    ∙ ap (read_one macaque (a.self.first && eqb a.self.at.count 0) (window_in a.self.at.lead a.self.at.trail) a.self.at.last) c.look-ahead.ensures)

pub decode-requires : goal.decode-requires
decode-requires c =
    (twice (eqb c.args.self.at.lead opening.lead), c.args.self.readable.held)
  where
    twice : (b : Bool) → b ≡ not (not b)
    twice true = refl
    twice false = refl

pub overflow_add-result : goal.overflow_add-result
overflow_add-result c =
    let a = c.args in
    let g = c.in_ok-got.got in
    omega (
      arith,
      c.args.self.readable.near,
      used-most a.self.first a.self.bytes.now a.self.at c.args.self.readable (a.self.first && eqb a.self.at.count 0) (raw-is a.self.first a.self.at.count)
          g.value g.lead g.trail g.used (step (goal.at.overflow_add-result c).After-decode ∙ ap says_decoded c.in_ok-got.was),
    )

pub returns-in_err-got : goal.returns-in_err-got
returns-in_err-got c =
    let a = c.args in
    let d = (goal.at.returns-in_err-got c).After-decode in
    rw (passed-on c.from_residual.result c.from_residual.ensures.1)
    (sym (next-is a.self.first a.self.bytes.now a.self.at c.args.self.readable (a.self.first && eqb a.self.at.count 0) (raw-is a.self.first a.self.at.count) _ (step d ∙ ap says_decoded c.in_err-got.was)))

pub returns : goal.returns
returns c =
    let a = c.args in
    let d = (goal.at.returns c).After-decode in
    let g = c.in_ok-got.got in
    let raw = a.self.first && eqb a.self.at.count 0 in
    let says = step d ∙ ap says_decoded c.in_ok-got.was in (
      sym (next-is a.self.first a.self.bytes.now a.self.at c.args.self.readable raw (raw-is a.self.first a.self.at.count) _ says),
      readable-next a.self.first a.self.bytes.now a.self.at c.args.self.readable raw (raw-is a.self.first a.self.at.count) g.value g.lead g.trail g.used says,
    )
