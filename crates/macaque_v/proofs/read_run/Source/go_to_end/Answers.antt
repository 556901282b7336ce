-- `macaque_v::read_run::Source::go_to_end` meets its contract: the values, then the end. Assumes nothing.
use mathlib.Core.Path.{◌≡◌, sym, ap, ◌∙◌, subst}
use native.Mathlib.Omega.{arith}
use Rattle.models.specs.Calls.{said_by}
use Rattle.macaque_v.specs.ReadRun.{end_said}
use Rattle.macaque_v.specs.Inner.ReadRun.{Walked, WalkSays}
use Rattle.macaque_v.proofs.Passing.{passed-on}
use Rattle.macaque_v.proofs.ReadingEnd.{ends-wrong, ends-early}
use Rattle.macaque_v.proofs.read_run.Source.go_to_end.Goals as goal
use Rattle.macaque_v.proofs.read_run.Source.go_to_end.Goals.{In_ok-to, After-judge_end}

-- the values were read
walked : (c : In_ok-to)
    → Walked c.args.self.first c.args.self.bytes.now c.args.self.at
    c.args.n c.args.aim c.in_ok-to.to c.in_ok-to.tally
walked c =
    let a = c.args in
    subst (WalkSays a.self.first a.self.bytes.now a.self.at a.n a.aim) c.in_ok-to.was c.go_through.ensures

pub behind-requires : goal.behind-requires
behind-requires c = (walked (goal.at.behind-requires c).In_ok-to).reads.readable

pub judge_end-requires : goal.judge_end-requires
judge_end-requires c = rw c.behind.ensures.2 (omega (arith, (walked (goal.at.judge_end-requires c).In_ok-to).reads.counted))

-- what is said of the end
said : (c : After-judge_end) → said_by c.judge_end.result ≡ end_said c.args.self.bytes.now c.in_ok-to.to
said c = rw (c.behind.ensures.0, c.behind.ensures.2) at c.judge_end.ensures

pub returns-in_err-to : goal.returns-in_err-to
returns-in_err-to c =
    let a = c.args in
    rw (passed-on c.from_residual.result c.from_residual.ensures.1) (ends-early (subst (WalkSays a.self.first a.self.bytes.now a.self.at a.n a.aim) c.in_err-to.was c.go_through.ensures))

pub returns-in_err-judge_end : goal.returns-in_err-judge_end
returns-in_err-judge_end c =
    rw (passed-on c.from_residual-in_err-judge_end.result c.from_residual-in_err-judge_end.ensures.1)
    (ends-wrong (walked (goal.at.returns-in_err-judge_end c).In_ok-to).reads (ap said_by (sym c.in_err-judge_end.was) ∙ said (goal.at.returns-in_err-judge_end c).After-judge_end))

pub returns : goal.returns
returns c = (walked (goal.at.returns c).In_ok-to, sym (said (goal.at.returns c).After-judge_end) ∙ ap said_by c.in_ok-judge_end.was)
