-- What a segment that nothing refuses has; the times that its model owns keep the order of all. Assumes nothing.
use mathlib.Core.Path.{◌≡◌, refl}
use mathlib.Core.Bool.{Bool, true, false, cond, ◌&&◌}
use mathlib.Core.List.{List, [], ◌∷◌, map}
use Prim.Native.Nat.{ℕ, zero, suc, ◌≤◌, ◌<◌}
use native.Mathlib.Nat.{le_of_suc-le-suc, not-suc-le-zero}
use native.Mathlib.Omega.{arith}
use mir.Syntax.{w64}
use mir.Val.{to_z, of_z}
use mir.ValLaws.{to_z-of_z}
use borrow.Author.Tests.{le-ltb, ltb-false, leb-false, not-false}
use lib.Dec.{ltb}
use lib.IntN.{ℤ, pos}
use lib.Signed.{lt_z}
use lib.ListN.{length, take, get_or, replicate, length-map, length-replicate}
use lib.Seq.{length-take-le}
use Rattle.models.specs.Answers.{Said, answered, judge, verdict}
use Rattle.models.specs.declared.Fault.{Fault}
use Rattle.models.specs.Limits.{most_values}
use Rattle.models.proofs.Judged.{none}
use Rattle.models.proofs.Tests.{and_left, and_right, and_both, neither}
use Rattle.lines.specs.Line.{line_through}
use Rattle.lines.specs.Values.{line_drawn_at}
use Rattle.lines.specs.Times.{time_allowed, after, in_order}
use Rattle.lines.proofs.Exact.{time-fits}
use Rattle.lines.proofs.Ordered.{in-order-at}
use Rattle.swing.proofs.Allowed.{before-both}
use Rattle.parameters.specs.Forms.{Ends}
use Rattle.segment_grid.specs.Segment.{count_in, is_swing, owned, owned_times, start_of, end_of, model_values}
use Rattle.segment_grid.specs.Calls.{grid_causes, sum_causes}

-- ---- times in order

after-take : (n : ℕ) (a : ℤ) (ts : List ℤ) → after a ts ≡ true → after a (take n ts) ≡ true
unfolding after
after-take zero a ts h = refl
after-take (suc n) a [] h = refl
after-take (suc n) a (t ∷ ts) h =
    let later = and_right (time_allowed t) (lt_z a t && after t ts) h in
    and_both (time_allowed t) (lt_z a t && after t (take n ts)) (and_left (time_allowed t) (lt_z a t && after t ts) h)
    (and_both (lt_z a t) (after t (take n ts)) (and_left (lt_z a t) (after t ts) later) (after-take n t ts (and_right (lt_z a t) (after t ts) later)))

pub in_order_take : (n : ℕ) (ts : List ℤ) → in_order ts ≡ true → in_order (take n ts) ≡ true
unfolding in_order
in_order_take zero ts h = refl
in_order_take (suc n) [] h = refl
in_order_take (suc n) (t ∷ ts) h =
    and_both (time_allowed t) (after t (take n ts)) (and_left (time_allowed t) (after t ts) h) (after-take n t ts (and_right (time_allowed t) (after t ts) h))

-- and each later one is after the first
after-later : (a : ℤ) (ts : List ℤ) (i : ℕ) → after a ts ≡ true → i < length ts → lt_z a (get_or ts i (pos 0)) ≡ true
unfolding after
after-later a [] i h l = absurd (not-suc-le-zero l)
after-later a (t ∷ ts) zero h l = and_left (lt_z a t) (after t ts) (and_right (time_allowed t) (lt_z a t && after t ts) h)
after-later a (t ∷ ts) (suc i) h l =
    let later = and_right (time_allowed t) (lt_z a t && after t ts) h in
    before-both a t (get_or ts i (pos 0)) (and_left (lt_z a t) (after t ts) later) (after-later t ts i (and_right (lt_z a t) (after t ts) later) (le_of_suc-le-suc l))

pub in-order-later : (ts : List ℤ) (i : ℕ) → in_order ts ≡ true → 0 < i → i < length ts → lt_z (get_or ts 0 (pos 0)) (get_or ts i (pos 0)) ≡ true
unfolding in_order
in-order-later [] i h some l = absurd (not-suc-le-zero l)
in-order-later (t ∷ ts) zero h some l = absurd (not-suc-le-zero some)
in-order-later (t ∷ ts) (suc i) h some l = after-later t ts i (and_right (time_allowed t) (after t ts) h) (le_of_suc-le-suc l)

-- each of them is allowed
pub in_order_at : (ts : List ℤ) (i : ℕ) → in_order ts ≡ true → i < length ts → time_allowed (get_or ts i (pos 0)) ≡ true
in_order_at = in-order-at

-- one of them, as a call hands it on
pub passed_on : (ts : List ℤ) (i : ℕ) → in_order ts ≡ true → i < length ts → to_z w64 (of_z w64 (get_or ts i (pos 0))) ≡ get_or ts i (pos 0)
passed_on ts i ok lt = to_z-of_z w64 (get_or ts i (pos 0)) (time-fits (get_or ts i (pos 0)) (in-order-at ts i ok lt))

-- ---- a segment that no cause refuses, with an output that has `room`

pub record Clear (ts : List ℤ) (residuals : List ℕ) (room : ℕ) : Type 0 where
  pub few : length ts ≤ most_values
  pub some : count_in residuals < length ts
  pub holds : length ts ≤ room
  pub ordered : in_order ts ≡ true

module _ (model : ℕ) (ts : List ℤ) (ends : Said Ends) (residuals : List ℕ) where
  pub clear : (room : ℕ) → verdict (grid_causes model ts ends residuals room) ≡ answered tt → Clear ts residuals room
  clear room h =
      let c = none (grid_causes model ts ends residuals room) h in
      record {
        few = ltb-false most_values (length ts) (neither (ltb 1 model) (ltb most_values (length ts)) c.0).1;
        some = leb-false (length ts) (count_in residuals) c.1.0;
        holds = ltb-false room (length ts) c.1.1.0;
        ordered = not-false (in_order ts) (neither _ _ c.1.1.1.0).0;
      }

  -- an output with room for all values refuses nothing
  pub no-room-asked : {X : Type 0} (refuse : Fault → X) (x : X) → judge refuse (grid_causes model ts ends residuals (length ts)) x ≡ judge refuse (sum_causes model ts ends residuals) x
  unfolding judge
  no-room-asked refuse x = rw (le-ltb (length ts) (length ts) (omega arith))

-- how many times are owned
pub length-owned : (ts : List ℤ) (residuals : List ℕ) → length (owned_times ts residuals) ≡ owned ts residuals
length-owned ts residuals = length-take-le (owned ts residuals) ts (omega arith)

-- as many values are drawn
pub length-model : (model : ℕ) (times : List ℤ) (ends : Ends) → length (model_values model times ends) ≡ length times
unfolding model_values
length-model model times ends = go (is_swing model)
  where
    go : (b : Bool) → length (cond b (map (line_drawn_at (line_through (start_of times ends) (end_of times ends))) times) (replicate (length times) ends.0)) ≡ length times
    go true = length-map times (line_drawn_at (line_through (start_of times ends) (end_of times ends)))
    go false = length-replicate (length times) ends.0
