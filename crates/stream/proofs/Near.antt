-- A value takes at most `longest` bits, written or read: so a state that writes and reads from the start lead to has a place near the start.
-- Assumes nothing.
use mathlib.Core.Path.{◌≡◌, refl, ◌∙◌}
use mathlib.Core.Bool.{Bool}
use mathlib.Core.List.{List}
use mathlib.Core.Option.{Option, none, some}
use Prim.Native.Nat.{ℕ, zero, suc, ◌*◌, ◌^◌, ◌≤◌, ◌<◌}
use native.Mathlib.Nat.{min-le_left, add-mul, suc-mul}
use native.Mathlib.Omega.{arith}
use lib.ListN.{length, take, drop, length-take}
use Rattle.stream.specs.Format.{Format, Stream, State, is_raw, advance}
use Rattle.stream.specs.Write.{kept, written, wrote}
use Rattle.stream.specs.Read.{Step, got, halt, Reading, done, stopped, push, follow, step_at, read_n, read_all, leftover, ended_by, ended}
use Rattle.stream.specs.Needs.{Good, longest}
use Rattle.stream.proofs.OwnBits.{own}
use Rattle.stream.proofs.FirstBits.{read-of-first}
use Rattle.stream.proofs.CodeWords.{all-long}
use Rattle.stream.proofs.Writing.{place_after, count-after, length-kept}

abbrev pub Near : {A : Type 0} → Format → State A → Type 0
Near F s = s.place ≤ s.count * longest F

abbrev pub NearIn : {A : Type 0} → Format → Reading A → Type 0
NearIn F (done vs t r) = Near F t
NearIn F (stopped f) = Unit

module _ {A : Type 0} (S : Stream A) (good : Good S.format) where
  -- ---- writing

  pub written-most : (rule : ℕ → ℕ → ℕ) (s : State A) (xs : List ℕ) → length (written rule S s xs) ≤ length xs * longest S.format
  written-most rule s xs = rw (sym-kept) (all-long S good s (kept rule S s xs))
    where
      sym-kept : length xs ≡ length (kept rule S s xs)
      sym-kept = omega (arith, length-kept S rule s xs)

  pub wrote-near : (rule : ℕ → ℕ → ℕ) (s : State A) (xs : List ℕ) → Near S.format s → Near S.format (wrote rule S s xs)
  wrote-near rule s xs near =
      let ks : List ℕ = kept rule S s xs in
      rw (count-after S s ks, add-mul s.count (length ks) (longest S.format)) (omega (arith, place_after S s ks, all-long S good s ks))

  -- ---- reading

  near-push : (v : ℕ) (q : Reading A) → NearIn S.format q → NearIn S.format (push v q)
  near-push v (done vs t r) near = near
  near-push v (stopped f) near = tt

  near-ended : (q : Reading A) → NearIn S.format q → NearIn S.format (ended q)
  unfolding ended
  near-ended (done vs t r) near = go (leftover t.place r)
    where
      go : (p : Option ℕ) → NearIn S.format (ended_by vs t r p)
      go none = near
      go (some p) = tt
  near-ended (stopped f) near = tt

  pub read-near : (n : ℕ) (s : State A) (bs : List Bool) → s.last < 2 ^ S.format.width → Near S.format s → NearIn S.format (read_n S n s bs)
  unfolding read_n
  read-near zero s bs small near = near
  read-near (suc n) s bs small near = go (step_at S s bs) refl (λ t b h k. read-near n t b h k)
    where
      go : (q : Step) → step_at S s bs ≡ q → ((t : State A) (b : List Bool) → t.last < 2 ^ S.format.width → Near S.format t → NearIn S.format (read_n S n t b))
          → NearIn S.format (follow s q (λ v win used. push v (read_n S n (advance S s v win used) (drop used bs))))
      go (halt m) e ih = tt
      go (got v w u) e ih =
          let F : Format = S.format in
          let first : List Bool = take (longest F) bs in
          let o = own F good s.win s.last small first v w u (is_raw S s) (read-of-first F good s.win s.last bs (is_raw S s) ∙ e) in
          let short : u ≤ longest F = omega (arith, o.there, length-take (longest F) bs, min-le_left (longest F) (length bs)) in
          near-push v (read_n S n (advance S s v w u) (drop u bs))
          (ih (advance S s v w u) (drop u bs) o.small (omega (arith, short, suc-mul s.count (longest F))))

  pub all_near : (n : ℕ) (s : State A) (bs : List Bool) → s.last < 2 ^ S.format.width → Near S.format s → NearIn S.format (read_all S n s bs)
  all_near n s bs small near = near-ended (read_n S n s bs) (read-near n s bs small near)
