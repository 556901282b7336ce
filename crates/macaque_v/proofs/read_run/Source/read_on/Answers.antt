use mathlib.Core.Path.{◌≡◌, sym, subst}
use mathlib.Core.Bool.{false}
use Prim.Native.Nat.{◌+◌, ◌<◌}
use native.Mathlib.Omega.{arith}
use borrow.Author.Tests.{ne_eqb}
use Rattle.stream.specs.Format.{opening, window_in, unset}
use Rattle.macaque_v.specs.Inner.ReadRun.{ReadsOn}
use Rattle.macaque_v.proofs.Repeating.{reached-start, reached-kept, reached-repeats}
use Rattle.macaque_v.proofs.read_run.Source.read_on.Goals as goal
use Rattle.macaque_v.proofs.read_run.Source.read_on.Goals.{Else-lead-eq-OPENING_LEADING}

-- the window is set, so it leaves a bit
is_set : (c : Else-lead-eq-OPENING_LEADING) → unset (window_in c.args.self.at.lead c.args.self.at.trail) ≡ false
is_set c = ne_eqb c.args.self.at.lead opening.lead c.if-lead-eq-OPENING_LEADING.false

held : (c : Else-lead-eq-OPENING_LEADING) → c.args.self.at.lead + c.args.self.at.trail < 32
held c = c.args.self.readable.held (is_set c)

pub overflow_sub-step : goal.overflow_sub-step
overflow_sub-step c = omega (arith, held (goal.at.overflow_sub-step c).Else-lead-eq-OPENING_LEADING)

pub overflow_sub-step-2 : goal.overflow_sub-step-2
overflow_sub-step-2 c = omega (arith, held (goal.at.overflow_sub-step-2 c).Else-lead-eq-OPENING_LEADING)

pub loop-j-init : goal.loop-j-init
loop-j-init c =
    let s = c in
    let a = s.args in
    reached-start a.self.first a.self.bytes.now a.self.at a.i a.n a.out.now s.args.self.readable (omega arith)

pub in_place-last-requires : goal.in_place-last-requires
in_place-last-requires c = (omega arith, held (goal.at.in_place-last-requires c).Else-lead-eq-OPENING_LEADING)

pub loop-j-preserved-then-word-eq0 : goal.loop-j-preserved-then-word-eq0
loop-j-preserved-then-word-eq0 c =
    let s = c in
    let a = s.args in
    let l = c.loop-j in
    let word = c.word_ahead-word in
    reached-kept a.self.first a.self.bytes.now a.self.at (omega arith) a.i a.n a.out.now l.out l.last l.place l.j l.invariant (omega arith) word.result word.ensures
    (omega arith) (omega arith) (is_set (goal.at.loop-j-preserved-then-word-eq0 c).Else-lead-eq-OPENING_LEADING) c.in_place-last.result c.in_place-last.ensures

pub returns-then-k-eq0 : goal.returns-then-k-eq0
returns-then-k-eq0 c =
    let a = c.args in
    let l = c.loop-j in
    subst (ReadsOn a.self.first a.self.bytes.now a.self.at a.i a.n a.out.now l.out) (sym c.further.ensures) l.invariant.on

pub spread-requires : goal.spread-requires
spread-requires c = omega (arith, c.at_once-k.ensures.free (omega arith), c.loop-j.invariant.on.long)

pub loop-j-preserved : goal.loop-j-preserved
loop-j-preserved c =
    let s = c in
    let a = s.args in
    let l = c.loop-j in
    let word = c.word_ahead-word in
    let k = c.at_once-k in
    reached-repeats a.self.first a.self.bytes.now a.self.at (omega arith) a.i a.n a.out.now l.out l.last l.place l.j l.invariant (omega arith) word.result word.ensures
    k.result k.ensures (omega arith) c.spread.new.out c.spread.ensures

pub returns : goal.returns
returns c =
    let a = c.args in
    let l = c.loop-j in
    subst (ReadsOn a.self.first a.self.bytes.now a.self.at a.i a.n a.out.now l.out) (sym c.further-2.ensures) l.invariant.on
