-- A whole stream in lent bytes, as the calls speak of it: the values of the theory's stream, and the state that reopening answers. Assumes nothing.
use mathlib.Core.Path.{◌≡◌, refl, sym, ap, ap₂, ◌∙◌, subst}
use mathlib.Core.Bool.{Bool, true, false≢true}
use mathlib.Core.List.{List, ◌++◌}
use mathlib.Core.Option.{Option, none, some}
use Prim.Native.Nat.{ℕ, ◌+◌, ◌-◌, ◌^◌, ◌≤◌, ◌<◌}
use native.Mathlib.Omega.{arith}
use lib.ListN.{drop}
use Rattle.bits.specs.Bits.{bits_of}
use Rattle.models.specs.Answers.{answered, refused}
use Rattle.models.specs.Refusals.{fault_of}
use Rattle.models.specs.declared.Refusal.{Refusal}
use Rattle.stream.specs.Format.{Gather, gather_from, Stream, State, bare}
use Rattle.stream.specs.Read.{Reading, done, stopped, read_n, leftover, ended_by, ended, read_all, Reopened, reopened, state_read, checked, reopen}
use Rattle.stream.specs.Calls.{fault_at}
use Rattle.stream.proofs.Reading.{prepend, then_read, read-then}
use Rattle.stream.proofs.Gathered.{SeenIn, seen_read, instead, holding, Alike, read-any}
use Rattle.macaque_v.specs.State.{Known, gather_known, mode_of, stream_in, is_first, opened}
use Rattle.macaque_v.specs.ReadRun.{state_at, end_said}
use Rattle.macaque_v.specs.Inner.ReadRun.{ReadableAt, read_from, Reads, StopsBy}
use Rattle.macaque_v.specs.Read.{values_read, values_in, start_of}
use Rattle.macaque_v.specs.Inner.Read.{values_from, reopening, state_with, Unopened}
use Rattle.macaque_v.specs.declared.Opening.{Opening}
use Rattle.macaque_v.specs.declared.read_run.Cursor.{Cursor}
use Rattle.macaque_v.proofs.ReadingRun.{reads_none, reads_then, then-stops}
use Rattle.macaque_v.proofs.ReadingEnd.{ends-right, ends-early}

-- ---- readings that differ in what they gather

module _ {A B : Type 0} (S : Stream A) (G : Gather B) where
  alike-ended : (p : Reading A) (q : Reading B) → Alike S G p q → Alike S G (ended p) (ended q)
  unfolding ended
  alike-ended (done vs s r) (done us t b) e =
      subst (λ (z : List ℕ). Alike S G (ended (done vs s r)) (ended (done z t b))) e.0
      (subst (λ (z : State B). Alike S G (ended (done vs s r)) (ended (done vs z b))) e.1
      (subst (λ (z : List Bool). Alike S G (ended (done vs s r)) (ended (done vs (holding S G t.seen s) z))) e.2
      (go (leftover s.place r))))
    where
      go : (o : Option ℕ) → Alike S G (ended_by vs s r o) (ended_by vs (holding S G t.seen s) r o)
      go none = (refl, refl, refl)
      go (some p) = refl
  alike-ended (done vs s r) (stopped f) e = absurd e
  alike-ended (stopped f) (done us t b) e = absurd e
  alike-ended (stopped f) (stopped g) e = e

  alike-values : (p : Reading A) (q : Reading B) → Alike S G p q → values_read p ≡ values_read q
  alike-values (done vs s r) (done us t b) e = ap answered e.0
  alike-values (done vs s r) (stopped f) e = absurd e
  alike-values (stopped f) (done us t b) e = absurd e
  alike-values (stopped f) (stopped g) e = ap (λ (h : _). refused (fault_at h)) e

  alike-stops : (p : Reading A) (q : Reading B) (r : Refusal) → Alike S G p q → StopsBy p r → StopsBy q r
  alike-stops p q r e s = go q (subst (λ (z : Reading A). Alike S G z q) s.stops e)
    where
      go : (z : Reading B) → Alike S G (stopped s.fault) z → StopsBy z r
      go (done us t b) k = absurd k
      go (stopped g) k = record { fault = s.fault; stops = ap stopped (sym k); numbered = s.numbered }

  -- an accepted stream is checked
  alike-checked : (p : Reading A) (q : Reading B) (vs : List ℕ) (t : State A) (b : List Bool) → Alike S G p q → p ≡ done vs t b → (x : Reopened B) → checked q x ≡ x
  alike-checked p q vs t b e f x = go q (subst (λ (z : Reading A). Alike S G z q) f e)
    where
      go : (z : Reading B) → Alike S G (done vs t b) z → checked z x ≡ x
      go (done us u c) k = refl
      go (stopped g) k = absurd k

  -- the state has gathered over the values read
  read-gathering : (n : ℕ) (s : State A) (b : B) (bits : List Bool) (vs : List ℕ) (t : State A) (r : List Bool) → read_n S n s bits ≡ done vs t r
      → read_n (instead S G) n (holding S G b s) bits ≡ done vs (holding S G (gather_from G S.mode s.count b vs) t) r
  read-gathering n s b bits vs t r e =
      go (read_n (instead S G) n (holding S G b s) bits) refl
      (subst (λ (z : Reading A). Alike S G z (read_n (instead S G) n (holding S G b s) bits)) e (read-any S G n s b bits))
      (seen_read (instead S G) n (holding S G b s) bits)
    where
      go : (q : Reading B) → read_n (instead S G) n (holding S G b s) bits ≡ q → Alike S G (done vs t r) q → SeenIn (instead S G) (holding S G b s) q
          → read_n (instead S G) n (holding S G b s) bits ≡ done vs (holding S G (gather_from G S.mode s.count b vs) t) r
      go (done us u c) is k seen =
          let same : u.seen ≡ gather_from G S.mode s.count b vs = seen ∙ ap (gather_from G S.mode s.count b) (sym k.0) in
          is ∙ ap₂ (λ (z : List ℕ) (w : State B). done z w c) (sym k.0) (sym k.1) ∙ ap₂ (λ (z : B) (w : List Bool). done vs (holding S G z t) w) same (sym k.2)
      go (stopped f) is k seen = absurd k

-- ---- some values, and then more

pub ended-prepend : (us : List ℕ) (q : Reading Unit) → ended (prepend us q) ≡ prepend us (ended q)
unfolding ended
ended-prepend us (done vs s b) = go (leftover s.place b)
  where
    go : (p : Option ℕ) → ended_by (us ++ vs) s b p ≡ prepend us (ended_by vs s b p)
    go none = refl
    go (some p) = refl
ended-prepend us (stopped f) = refl

-- ---- from the start

pub start-readable : (bytes : List ℕ) (o : Opening) → (start_of o).last < 2 ^ 32 → ReadableAt bytes (start_of o)
start-readable bytes o h = record { within = omega arith; near = omega arith; small = h; held = λ set. absurd (false≢true (sym set)) }

module _ (bytes : List ℕ) (o : Opening) where
  all_alike : (n : ℕ) → Alike (bare (mode_of (is_first o))) gather_known (ended (read_from (is_first o) bytes (start_of o) n)) (read_all (stream_in (is_first o)) n (opened o) (bits_of bytes))
  all_alike n =
      let S : Stream Unit = bare (mode_of (is_first o)) in
      alike-ended S gather_known (read_from (is_first o) bytes (start_of o) n) (read_n (stream_in (is_first o)) n (opened o) (bits_of bytes))
      (read-any S gather_known n (state_at (start_of o)) gather_known.none (bits_of bytes))

  -- ---- values that were read, with what a writer gathers of them; or where reading stops

  pub read_known : {k : ℕ} {us : List ℕ} {at : Cursor} → Reads (is_first o) bytes (start_of o) k us at
      → read_n (stream_in (is_first o)) k (opened o) (bits_of bytes)
      ≡ done us (state_with at (gather_from gather_known (mode_of (is_first o)) 0 gather_known.none us)) (drop at.place (bits_of bytes))
  read_known {k} {us} {at} R =
      read-gathering (bare (mode_of (is_first o))) gather_known k (state_at (start_of o)) gather_known.none (bits_of bytes) us (state_at at) (drop at.place (bits_of bytes)) R.values

  pub stops-known : (n : ℕ) {r : Refusal} → StopsBy (read_from (is_first o) bytes (start_of o) n) r → StopsBy (read_n (stream_in (is_first o)) n (opened o) (bits_of bytes)) r
  stops-known n {r} s =
      let S : Stream Unit = bare (mode_of (is_first o)) in
      alike-stops S gather_known (read_from (is_first o) bytes (start_of o) n) (read_n (stream_in (is_first o)) n (opened o) (bits_of bytes)) r
      (read-any S gather_known n (state_at (start_of o)) gather_known.none (bits_of bytes)) s

  -- ---- the values

  pub same-values : (n : ℕ) → values_in bytes n o ≡ values_from true (is_first o) bytes (start_of o) n
  same-values n = sym (alike-values (bare (mode_of (is_first o))) gather_known (ended (read_from (is_first o) bytes (start_of o) n)) _ (all_alike n))

  pub values-right : {n : ℕ} {vs : List ℕ} {to : Cursor} → Reads (is_first o) bytes (start_of o) n vs to → end_said bytes to ≡ answered tt → values_in bytes n o ≡ answered vs
  values-right {n} R e = same-values n ∙ ap values_read (ends-right R e)

  pub values-wrong : (n : ℕ) (r : Refusal) → StopsBy (ended (read_from (is_first o) bytes (start_of o) n)) r → values_in bytes n o ≡ refused (fault_of r)
  values-wrong n r s = same-values n ∙ ap values_read s.stops ∙ ap refused s.numbered

  -- ---- the state after k of n values

  module _ (n k : ℕ) (le : k ≤ n) where
    whole : k + (n - k) ≡ n
    whole = omega arith

    stops-unopened : {r : Refusal} → StopsBy (ended (read_from (is_first o) bytes (start_of o) n)) r → Unopened (reopening bytes n k o) r
    unfolding reopen
    stops-unopened {r} s =
        let S : Stream Unit = bare (mode_of (is_first o)) in
        let t = alike-stops S gather_known (ended (read_from (is_first o) bytes (start_of o) n)) (read_all (stream_in (is_first o)) n (opened o) (bits_of bytes)) r (all_alike n) s in
        record {
          fault = t.fault;
          opens = ap (λ (q : Reading Known). checked q (state_read (read_n (stream_in (is_first o)) k (opened o) (bits_of bytes)))) t.stops;
          numbered = t.numbered;
        }

    -- it stops among the first k values
    pub early-unopened : {r : Refusal} → ReadableAt bytes (start_of o) → StopsBy (read_from (is_first o) bytes (start_of o) k) r → Unopened (reopening bytes n k o) r
    early-unopened h s = stops-unopened (ends-early (then-stops (is_first o) bytes (reads_none (is_first o) bytes (start_of o) h) k s n (omega arith)))

    module _ {us : List ℕ} {at : Cursor} (R : Reads (is_first o) bytes (start_of o) k us at) where
      -- it stops behind them
      pub late-unopened : {r : Refusal} → StopsBy (ended (read_from (is_first o) bytes at (n - k))) r → Unopened (reopening bytes n k o) r
      late-unopened {r} s =
          let S : Stream Unit = bare (mode_of (is_first o)) in
          stops-unopened
          (record {
            fault = s.fault;
            stops =
                ap (λ (m : ℕ). ended (read_from (is_first o) bytes (start_of o) m)) (sym whole)
                ∙ ap ended (read-then S k (n - k) (state_at (start_of o)) (bits_of bytes) ∙ ap (then_read S (n - k)) R.values)
                ∙ ended-prepend us (read_from (is_first o) bytes at (n - k))
                ∙ ap (prepend us) s.stops;
            numbered = s.numbered;
          })

      pub right-reopened : {vs : List ℕ} {to : Cursor} → Reads (is_first o) bytes at (n - k) vs to → end_said bytes to ≡ answered tt
          → reopening bytes n k o ≡ reopened (state_with at (gather_from gather_known (mode_of (is_first o)) 0 gather_known.none us))
      unfolding reopen
      right-reopened {vs} {to} Q e =
          let S : Stream Unit = bare (mode_of (is_first o)) in
          let all : Reads (is_first o) bytes (start_of o) n (us ++ vs) to = subst (λ (m : ℕ). Reads (is_first o) bytes (start_of o) m (us ++ vs) to) whole (reads_then (is_first o) bytes R Q) in
          alike-checked S gather_known (ended (read_from (is_first o) bytes (start_of o) n)) (read_all (stream_in (is_first o)) n (opened o) (bits_of bytes))
          (us ++ vs) (state_at to) (drop to.place (bits_of bytes)) (all_alike n) (ends-right all e) (state_read (read_n (stream_in (is_first o)) k (opened o) (bits_of bytes)))
          ∙ ap state_read (read_known R)
