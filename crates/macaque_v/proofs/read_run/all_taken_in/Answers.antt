use mathlib.Core.Path.{◌≡◌, sym, ap, ap₂, ◌∙◌, subst}
use mathlib.Core.List.{List}
use Prim.Native.Nat.{ℕ, ◌+◌, ◌-◌, ◌<◌}
use native.Mathlib.Omega.{arith}
use lib.Ieee.{Float}
use lib.ListN.{length, take, get_or}
use Rattle.std.specs.Prelude.{Some, slice_get}
use Rattle.std.proofs.lemmas.List.{take_all}
use Rattle.std.proofs.lemmas.Option.{get_or_from_slice_get, slice_get_within}
use Rattle.stream.specs.Format.{gather_from}
use Rattle.stream.proofs.Gathered.{both-gather}
use Rattle.macaque_v.specs.State.{MinMax, min_max_with, gather_min_max, gather_sum, gather_known, mode_of}
use Rattle.macaque_v.specs.Inner.ReadRun.{min_max_in, known_in, tally_of}
use Rattle.macaque_v.specs.declared.span.Span.{Span}
use Rattle.macaque_v.specs.Inner.Span.{MinMaxHeld}
use Rattle.macaque_v.proofs.Extremes.{span_none, span_more, span-bits}
use Rattle.macaque_v.proofs.Stepping.{raw-is}
use Rattle.macaque_v.proofs.ReadingTally.{gather-empty, no-last, ends_more, sum-none, sum_more, sum-held}
use Rattle.macaque_v.proofs.read_run.all_taken_in.Goals as goal

pub returns-in_default : goal.returns-in_default
returns-in_default c =
    let a = c.args in
    ap tally_of (gather-empty gather_known (mode_of a.first) a.count (known_in a.tally) a.values.now (no-last a.values.now c.in_default.ensures.value))

pub loop-value-init : goal.loop-value-init
unfolding gather_from
loop-value-init c =
    let a = c.args in
    let first = get_or a.values.now 0 0 in
    let b = min_max_in a.tally in (
      subst (λ (s : Span). MinMaxHeld b 0 b s first) (sym c.begun-ends.ensures) (span_none b first (omega arith) (omega arith)),
      sum-none (mode_of a.first) a.count a.tally.sum a.values.now _ c.begun-total.result (raw-is a.first a.count) c.begun-total.ensures,
    )

pub loop-value-preserved : goal.loop-value-preserved
loop-value-preserved c =
    let a = c.args in
    let l = c.loop-value in
    let i = l.value-index in
    let v = get_or a.values.now i 0 in
    let b = min_max_in a.tally in
    let e = gather_from gather_min_max (mode_of a.first) a.count b (take i a.values.now) in
    let here : i ≡ i + 1 - 1 = omega arith in
    let s = c.joined-ends.result in (
      subst (λ (z : MinMax). MinMaxHeld b (i + 1) z s (get_or a.values.now (i + 1 - 1) 0)) (sym (ends_more (mode_of a.first) a.count b a.values.now i (omega arith)))
          (subst (λ (j : ℕ). MinMaxHeld b (i + 1) (min_max_with e v) s (get_or a.values.now j 0)) here
          (subst (λ (z : Span). MinMaxHeld b (i + 1) (min_max_with e v) z v) (sym c.joined-ends.ensures)
          (span_more l.invariant.0 v (c.type_inv.values i).fits))),
      c.joined-total.ensures ∙ sum_more (mode_of a.first) a.count a.tally.sum a.values.now i (omega arith) l.total l.invariant.1,
    )

pub returns : goal.returns
returns c =
    let a = c.args in
    let l = c.loop-value in
    let i = l.value-index in
    let vs = a.values.now in
    let b = min_max_in a.tally in
    let m = mode_of a.first in
    let all : i ≡ length vs = omega arith in
    let last = c.in-Some.field-0.now in
    let found : slice_get vs (length vs - 1) ≡ Some last = sym c.in-Some.ensures.value in
    let some : 0 < i = omega (arith, slice_get_within vs (length vs - 1) last found) in
    let held : MinMaxHeld b i (gather_from gather_min_max m a.count b (take i vs)) l.ends last =
    subst (MinMaxHeld b i (gather_from gather_min_max m a.count b (take i vs)) l.ends) (ap (λ (n : ℕ). get_or vs (n - 1) 0) all ∙ get_or_from_slice_get vs (length vs - 1) last 0 found) l.invariant.0 in
    let sum : l.total ≡ gather_from gather_sum m a.count a.tally.sum (take i vs) = sum-held m a.count a.tally.sum vs i l.total some l.invariant.1 in
    ap₂ (λ (x y : ℕ). tally_of (record { min = x; max = y }, l.total)) c.least.ensures c.greatest.ensures
    ∙ ap₂ (λ (e : MinMax) (s : Float). tally_of (e, s)) (span-bits held some) sum
    ∙ ap tally_of (sym (both-gather gather_min_max gather_sum m a.count b a.tally.sum (take i vs)))
    ∙ ap (λ (zs : List ℕ). tally_of (gather_from gather_known m a.count (known_in a.tally) zs)) (take_all i vs (omega arith))
