-- `macaque_v::read::state_at` meets its contract. Assumes nothing.
use mathlib.Core.Path.{sym, ap, ◌∙◌, subst, subst₂}
use mathlib.Core.Bool.{Bool}
use Prim.Native.Nat.{◌-◌, ◌^◌, ◌<◌}
use native.Mathlib.Omega.{arith}
use Rattle.stream.specs.Read.{reopened}
use Rattle.macaque_v.specs.State.{is_first}
use Rattle.macaque_v.specs.Inner.ReadRun.{ReadableAt, known_in, Walked, WalkSays, WholeSays}
use Rattle.macaque_v.specs.Read.{start_of}
use Rattle.macaque_v.specs.Inner.Read.{state_with}
use Rattle.macaque_v.specs.declared.read_run.Cursor.{Cursor}
use Rattle.macaque_v.specs.declared.read_run.Aim.{Aim}
use Rattle.macaque_v.specs.declared.read_run.Aim.TheVariants as OfAim
use Rattle.macaque_v.specs.declared.read_run.Tally.{Tally}
use Rattle.macaque_v.proofs.Passing.{passed-on}
use Rattle.macaque_v.proofs.ReadingAll.{early-unopened, late-unopened, right-reopened}
use Rattle.macaque_v.proofs.read.state_at.Goals as goal
use Rattle.macaque_v.proofs.read.state_at.Goals.{After-go_through, After-go_to_end, In_ok-at}

-- what is taken in of the values behind k
abbrev aside : Aim
aside = OfAim.Nothing

-- what going through the first k values says, from the start
told : (c : After-go_through)
    → WalkSays (is_first c.args.opening) c.args.bytes.now (start_of c.args.opening) c.args.k OfAim.All c.go_through.result
told c = rw (c.open-source.ensures.0, c.open-source.ensures.1, c.open-source.ensures.2) at c.go_through.ensures

walked : (c : In_ok-at)
    → Walked (is_first c.args.opening) c.args.bytes.now (start_of c.args.opening) c.args.k OfAim.All c.in_ok-at.at c.in_ok-at.tally
walked c =
    let a = c.args in
    subst (WalkSays (is_first a.opening) a.bytes.now (start_of a.opening) a.k OfAim.All) c.in_ok-at.was
    (rw (c.open-source.ensures.0, c.open-source.ensures.1, c.open-source.ensures.2) at c.go_through.ensures)

-- and going on to the end
checked : (c : After-go_to_end)
    → WholeSays (is_first c.args.opening) c.args.bytes.now c.in_ok-at.at (c.args.count - c.args.k) aside c.go_to_end.result
checked c =
    let o = c.open-source.ensures in
    let b = c.behind.ensures in
    rw (b.0, b.1, b.2, o.0, o.1) at c.go_to_end.ensures

pub go_through-requires : goal.go_through-requires
go_through-requires c = rw c.open-source.ensures.2 (omega arith)

pub behind-requires : goal.behind-requires
behind-requires c = rw c.open-source.ensures.0 (walked (goal.at.behind-requires c).In_ok-at).reads.readable

pub go_to_end-requires : goal.go_to_end-requires
go_to_end-requires c =
    let R = (walked (goal.at.go_to_end-requires c).In_ok-at).reads in
    rw c.behind.ensures.2 (omega (arith, R.counted))

pub returns-in_err-at : goal.returns-in_err-at
returns-in_err-at c =
    let a = c.args in
    let o = c.open-source in
    let readable : ReadableAt a.bytes.now (start_of a.opening) = rw (o.ensures.0, o.ensures.2) at o.result.readable in
    rw (passed-on c.from_residual.result c.from_residual.ensures.1)
    (early-unopened a.bytes.now a.opening a.count a.k (omega arith) readable
    (subst (WalkSays (is_first a.opening) a.bytes.now (start_of a.opening) a.k OfAim.All) c.in_err-at.was (told (goal.at.returns-in_err-at c).After-go_through)))

pub returns-in_err-go_to_end : goal.returns-in_err-go_to_end
returns-in_err-go_to_end c =
    let a = c.args in
    let at = c.in_ok-at.at in
    rw (passed-on c.from_residual-in_err-go_to_end.result c.from_residual-in_err-go_to_end.ensures.1)
    (late-unopened a.bytes.now a.opening a.count a.k (omega arith) (walked (goal.at.returns-in_err-go_to_end c).In_ok-at).reads
    (subst (WholeSays (is_first a.opening) a.bytes.now at (a.count - a.k) aside) c.in_err-go_to_end.was (checked (goal.at.returns-in_err-go_to_end c).After-go_to_end)))

pub returns : goal.returns
returns c =
    let s = c in
    let a = s.args in
    let at = c.in_ok-at.at in
    let W = walked (goal.at.returns c).In_ok-at in
    let says = subst (WholeSays (is_first a.opening) a.bytes.now at (a.count - a.k) aside) c.in_ok-go_to_end.was (checked (goal.at.returns c).After-go_to_end) in (
      right-reopened a.bytes.now a.opening a.count a.k s.requires.0 W.reads says.0.reads says.1
          ∙ ap (λ (t : Tally). reopened (state_with at (known_in t))) (sym W.tally),
      W.reads.readable.within,
    )
