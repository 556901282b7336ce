use mathlib.Core.Path.{◌≡◌, sym, ap, ◌∙◌}
use Prim.Native.Nat.{◌+◌}
use native.Mathlib.Omega.{arith}
use mir.Syntax.{w64}
use mir.ValLaws.{to_z-of_z}
use borrow.Author.Rules.{rules}
use lib.IntN.{pos}
use lib.ListN.{drop, length, get_or, length-append}
use Rattle.std.specs.Iterator.Adapters.{zip_first, zip_second}
use Rattle.std.specs.Slice.Iter.{iter_rest}
use Rattle.std.proofs.lemmas.Slice.Zip.{zip_turn, zip_end}
use Rattle.types.specs.Run.{run, points}
use Rattle.types.proofs.Runs.{run-failed, points-here, points-done}
use Rattle.types.proofs.ModelBuilder.stepped.Goals as goal

pub returns-then-not-could_fit : goal.returns-then-not-could_fit
returns-then-not-could_fit c =
    let l = c.loop-timestamp in
    let left = points (drop (length l.yielded) c.args.timestamps.now) (drop (length l.yielded) c.args.values.now) in
    sym (l.invariant ∙ run-failed l.b left (sym c.could_fit.ensures ∙ c.if-not-could_fit.true))

pub loop-timestamp-preserved : goal.loop-timestamp-preserved
loop-timestamp-preserved c =
    let ts = c.args.timestamps.now in
    let vs = c.args.values.now in
    let l = c.loop-timestamp in
    let n = length l.yielded in
    let s = c.into_iter-timestamp-iterator.result in
    let first : iter_rest (zip_first s) ≡ ts = search rules in
    let second : iter_rest (zip_second s) ≡ vs = search rules in
    let at = zip_turn ts vs l.yielded s l.timestamp-iterator c.next.new.self c.next.result first second l.yielded_by _ c.in-Some.is c.next.ensures.steps in
    let zt = to_z-of_z w64 (get_or ts n (pos 0)) (search rules) in
    let e = rw (at.2 (pos 0), at.3 0, zt) at c.next-b.ensures in
    simp length-append (l.invariant ∙ ap (run l.b) (points-here ts vs n at.0 at.1) ∙ ap (λ b. run b (points (drop (n + 1) ts) (drop (n + 1) vs))) (sym e))

pub returns-in-None : goal.returns-in-None
returns-in-None c =
    let l = c.loop-timestamp in
    let ts = c.args.timestamps.now in
    let vs = c.args.values.now in
    let s = c.into_iter-timestamp-iterator.result in
    let first : iter_rest (zip_first s) ≡ ts = search rules in
    let second : iter_rest (zip_second s) ≡ vs = search rules in
    let end = zip_end ts vs l.yielded s l.timestamp-iterator c.next.new.self c.next.result first second l.yielded_by c.in-None.is c.next.ensures.steps in
    sym (l.invariant ∙ ap (run l.b) (points-done ts vs (length l.yielded) (omega arith)))
