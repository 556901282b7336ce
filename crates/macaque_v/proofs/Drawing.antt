-- The values of a stream from a cursor on, block by block, and what they leave in lent memory. Assumes nothing.
use mathlib.Core.Path.{◌≡◌, refl, sym, ap, ap₂, ◌∙◌}
use mathlib.Core.Bool.{Bool, true, false}
use mathlib.Core.List.{List, [], ◌++◌, append_assoc, append-nil}
use Prim.Native.Nat.{ℕ, ◌+◌, ◌-◌, ◌≤◌}
use native.Mathlib.Omega.{arith}
use lib.ListN.{length, take, drop, length-append, take-append-drop}
use lib.Seq.{take-take, take-append-le, drop_at, length-take-le}
use Rattle.bits.specs.Bits.{bits_of}
use Rattle.models.specs.Answers.{Said, Done, answered, refused}
use Rattle.models.specs.declared.Fault.{Fault}
use Rattle.models.specs.Refusals.{fault_of}
use Rattle.models.specs.declared.Refusal.{Refusal}
use Rattle.models.proofs.Judged.{not-answered, not-refused}
use Rattle.stream.specs.Format.{Stream, bare}
use Rattle.stream.specs.Read.{Reading, done, stopped}
use Rattle.stream.proofs.Reading.{prepend, then_read, read-then}
use Rattle.macaque_v.specs.State.{mode_of}
use Rattle.macaque_v.specs.ReadRun.{state_at, ahead}
use Rattle.macaque_v.specs.Inner.ReadRun.{ReadableAt, read_from, Reads, StopsBy}
use Rattle.macaque_v.specs.Read.{values_read, drawn, drawn_in}
use Rattle.macaque_v.specs.Inner.Read.{ended_where, end_where, values_from, drawn_at, after_block, Right}
use Rattle.macaque_v.specs.declared.read_run.Cursor.{Cursor}
use Rattle.macaque_v.proofs.ReadingRun.{reads_none, then-stops}
use Rattle.macaque_v.proofs.ReadingEnd.{ends-right, ends-wrong, ends-early}
use Rattle.macaque_v.proofs.ReadingAll.{ended-prepend}

-- ---- the values

-- what stops a reading stops it whatever follows
early-where : (whole : Bool) {q : Reading Unit} {r : Refusal} → StopsBy q r → StopsBy (ended_where whole q) r
early-where true s = ends-early s
early-where false s = s

prepend-where : (whole : Bool) (us : List ℕ) (q : Reading Unit) → ended_where whole (prepend us q) ≡ prepend us (ended_where whole q)
prepend-where true us q = ended-prepend us q
prepend-where false us q = refl

module _ {first : Bool} {bytes : List ℕ} {from to : Cursor} {n : ℕ} {vs : List ℕ} (R : Reads first bytes from n vs to) where
  right-where : (whole : Bool) → end_where whole bytes to ≡ answered tt → ended_where whole (read_from first bytes from n) ≡ done vs (state_at to) (ahead bytes to)
  right-where true e = ends-right R e
  right-where false e = R.values

  -- what follows the values is wrong
  pub wrong-where : (whole : Bool) {r : Refusal} → refused (fault_of r) ≡ end_where whole bytes to → StopsBy (ended_where whole (read_from first bytes from n)) r
  wrong-where true e = ends-wrong R e
  wrong-where false e = absurd (not-answered e)

module _ (whole first : Bool) (bytes : List ℕ) (at : Cursor) where
  pub from_wrong : (n : ℕ) (r : Refusal) → StopsBy (ended_where whole (read_from first bytes at n)) r → values_from whole first bytes at n ≡ refused (fault_of r)
  from_wrong n r s = ap values_read s.stops ∙ ap refused s.numbered

  -- a block is not whole
  pub from-early : (n k : ℕ) (r : Refusal) → ReadableAt bytes at → k ≤ n → StopsBy (read_from first bytes at k) r → values_from whole first bytes at n ≡ refused (fault_of r)
  from-early n k r h le s =
      from_wrong n r (early-where whole (then-stops first bytes (reads_none first bytes at h) k s n (omega arith)))

  module _ {k : ℕ} {us : List ℕ} {to : Cursor} (R : Reads first bytes at k us to) where
    pub from-right : end_where whole bytes to ≡ answered tt → values_from whole first bytes at k ≡ answered us
    from-right e = ap values_read (right-where R whole e)

    -- a block, and what stands behind it
    pub from_then : (n : ℕ) → k ≤ n → values_from whole first bytes at n ≡ after_block us (values_from whole first bytes to (n - k))
    from_then n le =
        let S : Stream Unit = bare (mode_of first) in
        let all : k + (n - k) ≡ n = omega arith in
        ap (λ (m : ℕ). values_from whole first bytes at m) (sym all)
        ∙ ap (λ (q : Reading Unit). values_read (ended_where whole q))
        (read-then S k (n - k) (state_at at) (drop at.place (bits_of bytes)) ∙ ap (then_read S (n - k)) R.values)
        ∙ ap values_read (prepend-where whole us (read_from first bytes to (n - k)))
        ∙ go (ended_where whole (read_from first bytes to (n - k)))
      where
        go : (q : Reading Unit) → values_read (prepend us q) ≡ after_block us (values_read q)
        go (done vs s b) = refl
        go (stopped f) = refl

-- ---- in lent memory

pub drawn-behind : (us : List ℕ) (q : Said (List ℕ)) → drawn (after_block us q) ≡ drawn q
drawn-behind us (answered vs) = refl
drawn-behind us (refused n) = refl

-- a refusal behind a block leaves what was held
pub refused-behind : (us : List ℕ) (i j : ℕ) (old : List ℕ) (n : Fault) (q : Said (List ℕ)) → ◌≡◌ {A = Said Done} (refused n) (drawn q) → drawn_at j old q ≡ drawn_at i old (after_block us q)
refused-behind us i j old n (answered vs) e = absurd (not-answered e)
refused-behind us i j old n (refused m) e = refl

module _ (us : List ℕ) (j : ℕ) (old new : List ℕ) {all : Said (List ℕ)} where
  pub right-rest : (q : Said (List ℕ)) → all ≡ after_block us q → ◌≡◌ {A = Said Done} (answered tt) (drawn q) → new ≡ drawn_at j old q → length new ≡ length old → Right us all j old new
  right-rest (answered vs) e d f long = record { rest = vs; are = e; drawn-there = f; long = long }
  right-rest (refused n) e d f long = absurd (not-refused d)

  -- nothing stands there
  pub right-none : all ≡ answered us → new ≡ old → Right us all j old new
  right-none e f =
      let none : j ≡ j + 0 = omega arith in
      record {
        rest = [];
        are = e ∙ ap answered (sym (append-nil us));
        drawn-there = f ∙ sym (take-append-drop j old) ∙ ap (λ (n : ℕ). take j old ++ drop n old) none;
        long = ap length f;
      }

  -- the values are drawn
  pub right-says : Right us all j old new → ◌≡◌ {A = Said Done} (answered tt) (drawn all)
  right-says Q = sym (ap drawn Q.are)

-- the block is copied to the places before
pub right-copied : (us : List ℕ) (i k : ℕ) (old : List ℕ) {new : List ℕ} {all : Said (List ℕ)} → Right us all (i + k) old new → length us ≡ k → i + k ≤ length old
    → take i new ++ (us ++ drop (i + k) new) ≡ drawn_at i old all
right-copied us i k old {new} Q long h =
    let vs : List ℕ = Q.rest in
    let rest : List ℕ = vs ++ drop ((i + k) + length vs) old in
    let there : length (take (i + k) old) ≡ i + k = length-take-le (i + k) old h in
    let front : take i new ≡ take i old = ap (take i) Q.drawn-there ∙ take-append-le i (take (i + k) old) rest (omega (arith, there)) ∙ take-take i (i + k) old (omega arith) in
    let back : drop (i + k) new ≡ rest = ap (drop (i + k)) Q.drawn-there ∙ drop_at (take (i + k) old) rest (i + k) there in
    let end : (i + k) + length vs ≡ i + length (us ++ vs) = omega (arith, length-append us vs, long) in
    ap₂ (λ (x y : List ℕ). x ++ (us ++ y)) front back
    ∙ ap (λ (n : ℕ). take i old ++ (us ++ (vs ++ drop n old))) end
    ∙ ap (λ (x : List ℕ). take i old ++ x) (sym (append_assoc us vs (drop (i + length (us ++ vs)) old)))
    ∙ sym (ap (drawn_at i old) Q.are)

-- ---- from the start

pub drawn-from-start : (old : List ℕ) (q : Said (List ℕ)) → drawn_at 0 old q ≡ drawn_in old q
drawn-from-start old (answered vs) =
    let e : 0 + length vs ≡ length vs = omega arith in
    ap (λ (n : ℕ). vs ++ drop n old) e
drawn-from-start old (refused n) = refl
