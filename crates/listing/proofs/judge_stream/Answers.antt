-- `listing::judge_stream` meets its contract. Assumes nothing.
use mathlib.Core.Path.{sym, ap, subst}
use mathlib.Core.Bool.{true}
use native.Mathlib.Omega.{arith}
use Rattle.macaque_v.specs.Inner.ReadRun.{WholeSays}
use Rattle.macaque_v.specs.Read.{start_of}
use Rattle.macaque_v.specs.declared.Opening.TheVariants.{First}
use Rattle.macaque_v.specs.declared.read_run.Aim.TheVariants as OfAim
use Rattle.macaque_v.proofs.ReadingEnd.{ends-right}
use Rattle.listing.specs.Calls.{counted}
use Rattle.listing.proofs.judge_stream.Goals as goal
use Rattle.listing.proofs.judge_stream.Goals.{After-go_to_end}

-- what reading the whole stream says, from its start
told : (c : After-go_to_end) → WholeSays true c.args.stream.now (start_of First) c.args.count OfAim.Nothing c.go_to_end.result
told c = rw (c.open.ensures.0, c.open.ensures.1, c.open.ensures.2) at c.go_to_end.ensures

pub go_to_end-requires : goal.go_to_end-requires
go_to_end-requires c = rw c.open.ensures.2 (omega arith)

pub returns : goal.returns
returns c =
    let a = c.args in
    let says = subst (WholeSays true a.stream.now (start_of First) a.count OfAim.Nothing) c.in_ok-go_to_end.was (told (goal.at.returns c).After-go_to_end) in
    sym (ap (counted a.count) (ends-right says.0.reads says.1))
