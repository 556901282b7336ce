-- A reader on a stream that breaks off: it hands out the values before the break, says the same refusal where it stands, as every other call does, and
-- its values are those that were sent where the bits before the break are. Assumes nothing.
use mathlib.Core.Path.{◌≡◌, refl, sym, ap, ap₂, ◌∙◌, subst}
use mathlib.Core.Bool.{Bool}
use mathlib.Core.List.{List, [], ◌++◌}
use mathlib.Core.Option.{Option}
use Prim.Native.Nat.{ℕ, ◌*◌, ◌^◌, ◌≤◌, ◌<◌}
use native.Mathlib.Omega.{arith}
use borrow.Author.Tests.{le-ltb}
use lib.ListN.{length, take, drop, take-append-drop}
use lib.Seq.{take_all, take-append-le}
use Rattle.bits.specs.Bits.{bits_of}
use Rattle.bits.proofs.Bytes.{bits-append, bits-front}
use Rattle.models.specs.Answers.{answered, refused, answered_on, refused_on, judge, fault_in}
use Rattle.models.specs.Limits.{most_values}
use Rattle.models.specs.declared.Fault.{Fault}
use Rattle.models.proofs.Judged.{same-answer-on}
use Rattle.models.proofs.Tests.{never}
use Rattle.stream.specs.Format.{Stream, State, fresh, bare}
use Rattle.stream.specs.Read.{StreamRefusal, Step, Reading, done, stopped, step_at, read_n, leftover, ended_by, ended, read_all}
use Rattle.stream.specs.Calls.{fault_at}
use Rattle.stream.specs.Broken.{BrokenAt, CutShort}
use Rattle.stream.proofs.Formats.{macaque-good}
use Rattle.stream.proofs.Broken as theory
use Rattle.macaque_v.specs.State.{mode_of, is_first, opening_value}
use Rattle.macaque_v.specs.ReadRun.{moved_by, end_said}
use Rattle.macaque_v.specs.Read.{values_read, values_in, drawn}
use Rattle.macaque_v.specs.declared.Opening.{Opening}
use Rattle.macaque_v.proofs.ReadingAll.{same-values}
use Rattle.macaque_v.proofs.Broken.{grid-says-where, sum-says-where, reopening-says-where}
use Rattle.reader.specs.Calls.{opened_at, handed, next_read, end_answer}
use Rattle.reader.specs.Run.{Run, nexts, last_of, last_answer}
use Rattle.reader.specs.Broken.{ReadsUntil, EveryCallSays, ReadsAsSent, CutUpload}
use Rattle.reader.specs.declared.position.Position.{Position}
use Rattle.reader.proofs.Promises.{cursor_of, run_of, HandsOut, NextsSay, nexts-say, allowed, accepted, start-goes}

-- ---- reading a count, by the theory: a stream that gathers nothing

abbrev plain : Opening → Stream Unit
plain o = bare (mode_of (is_first o))

abbrev all_read : List ℕ → ℕ → Opening → Reading Unit
all_read bytes n o = read_all (plain o) n (fresh (plain o) (opening_value o)) (bits_of bytes)

refused-inv : (q : Reading Unit) (f : Fault) → values_read q ≡ refused f → (r : StreamRefusal) × (q ≡ stopped r) × (fault_at r ≡ f)
refused-inv (done vs t rest) f e = absurd (never (cc))
refused-inv (stopped r) f e = (r, refl, cc)

answered-inv : (q : Reading Unit) (us : List ℕ) → values_read q ≡ answered us → (u : State Unit) × (x : List Bool) × (q ≡ done us u x)
answered-inv (done vs t rest) us e = (t, rest, cc)
answered-inv (stopped r) us e = absurd (never (cc))

-- ---- a reader on a stream that is refused

module _ (bytes : List ℕ) (o : Opening) (h : opening_value o < 2 ^ 32) where
  abbrev start : State Unit
  start = fresh (plain o) (opening_value o)

  -- k values are read by nexts, and the reader stands behind them
  as-the-theory : (k : ℕ) → k ≤ most_values → {q : Reading Unit} → read_n (plain o) k start (bits_of bytes) ≡ q → NextsSay bytes (is_first o) k (nexts bytes k (opened_at o)) q
  as-the-theory k few e = subst (NextsSay bytes (is_first o) k (nexts bytes k (opened_at o))) e (nexts-say bytes k k (opened_at o) (start-goes bytes o h) (omega arith) few)

  module _ (n : ℕ) (few : n ≤ most_values) where
    -- what the theory says of the refusal, of the reader
    reads-until : (r : StreamRefusal) → BrokenAt (plain o) (opening_value o) n (bits_of bytes) r → ReadsUntil bytes o (fault_at r)
    unfolding next_read end_answer end_said judge ended
    reads-until r B =
        record {
          run = run_of (is_first o) B.values t;
          accepts = says.answers;
          long = B.long;
          next = λ other.
              let I = B.inside other in
              accepted bytes here says.going (omega (arith, I.wanted, B.counted))
              ∙ ap (λ (q : Step). handed here (moved_by (cursor_of t) q)) (ap (step_at (plain o) t) (sym says.left) ∙ I.halts)
              ∙ ap₂ (λ (c p : ℕ). refused_on (fault_in r.no c p) here) B.counted I.begins;
          end = λ eight.
              let E = B.behind eight in
              rw (allowed bytes (cursor_of t) says.going (omega (arith, B.counted)))
              (ap (λ (z : List Bool). drawn (values_read (ended_by [] t z (leftover t.place z)))) (sym says.left)
              ∙ ap (λ (z : Option ℕ). drawn (values_read (ended_by [] t B.rest z))) E.left
              ∙ ap₂ (λ (m c : ℕ). refused (fault_in m c r.place)) (sym eight) B.counted);
        }
      where
        t : State Unit
        t = B.state

        here : Position
        here = record { with_first = is_first o; at = cursor_of t }

        says : HandsOut bytes (is_first o) r.value (nexts bytes r.value (opened_at o)) B.values t B.rest
        says = as-the-theory r.value (omega (arith, B.few)) B.reads

    -- and the values that it hands out are those that the theory reads
    reads_as : (r : StreamRefusal) (B : BrokenAt (plain o) (opening_value o) n (bits_of bytes) r) (sent : List ℕ) → take r.value sent ≡ B.values → ReadsAsSent bytes o (fault_at r) sent
    unfolding reads-until
    reads_as r B sent same = record { until = reads-until r B; as_sent = sym same }

    module _ (f : Fault) (e : values_in bytes n o ≡ refused f) where
      theirs : (r : StreamRefusal) × (all_read bytes n o ≡ stopped r) × (fault_at r ≡ f)
      theirs = refused-inv (all_read bytes n o) f (sym (same-values bytes o n) ∙ e)

      broken : BrokenAt (plain o) (opening_value o) n (bits_of bytes) theirs.0
      broken = theory.read-until-it-broke (plain o) (opening_value o) n (bits_of bytes) theirs.0 theirs.1

      -- ---- the promises: of bytes that reading a count refuses

      -- as many nexts as the fault says are accepted; behind them the next is refused by the same fault or, where it is 8, the end is
      pub until-it-broke : ReadsUntil bytes o f
      until-it-broke = subst (ReadsUntil bytes o) theirs.2 (reads-until theirs.0 broken)

      -- and every other call that reads them says the same fault
      pub every-call-says-where : EveryCallSays bytes n o f
      unfolding last_answer judge
      every-call-says-where =
          record {
            grid = grid-says-where n o f bytes few e;
            sum = sum-says-where n o f bytes few e;
            last = rw (le-ltb most_values n few) (ap (last_of 0) e);
            reopen = λ b buf used k is free. reopening-says-where n o f b buf used k free (ap (λ (z : List ℕ). values_in z n o) is ∙ e);
            reader = until-it-broke;
          }

      -- where the bits before its place are those of a stream that was sent, what the nexts hand out are the first values of those that were sent
      pub as-it-was-sent : (whole : List ℕ) (n₀ : ℕ) (sent : List ℕ) → values_in whole n₀ o ≡ answered sent → f.value ≤ n₀
          → take f.place (bits_of bytes) ≡ take f.place (bits_of whole) → ReadsAsSent bytes o f sent
      as-it-was-sent whole n₀ sent acc le same =
          let w = answered-inv (all_read whole n₀ o) sent (sym (same-values whole o n₀) ∙ acc) in
          let v : theirs.0.value ≤ n₀ = subst (λ (g : Fault). g.value ≤ n₀) (sym theirs.2) le in
          let b = subst (λ (g : Fault). take g.place (bits_of bytes) ≡ take g.place (bits_of whole)) (sym theirs.2) same in
          subst (λ (g : Fault). ReadsAsSent bytes o g sent) theirs.2
          (reads_as theirs.0 broken sent
          (theory.as-it-was-sent-before-the-place (plain o) macaque-good (opening_value o) h broken n₀ (bits_of whole) sent w.0 w.1 w.2 v b))

      -- where the first d bits are those that were sent, the fault is at no value that lies before d, and the nexts read these values as they were sent
      pub never-before-the-damage : (whole : List ℕ) (d : ℕ) → take d (bits_of bytes) ≡ take d (bits_of whole)
          → (k : ℕ) → k ≤ n → (run : Run) → nexts whole k (opened_at o) ≡ answered_on run → run.after.at.place ≤ d
          → (k ≤ f.value) × (nexts bytes k (opened_at o) ≡ answered_on run)
      never-before-the-damage whole d same k le run out at =
          go (read_n (plain o) k start (bits_of whole)) refl (nexts-say whole k k (opened_at o) (start-goes whole o h) (omega arith) (omega arith))
        where
          go : (q : Reading Unit) → read_n (plain o) k start (bits_of whole) ≡ q → NextsSay whole (is_first o) k (nexts whole k (opened_at o)) q
              → (k ≤ f.value) × (nexts bytes k (opened_at o) ≡ answered_on run)
          go (stopped r) rd s = absurd (let z = s.1 in never (cc))
          go (done ws w x) rd s =
              let is : run_of (is_first o) ws w ≡ run = same-answer-on (sym s.answers ∙ out) in
              let p : w.place ≤ d = subst (λ (z : Run). z.after.at.place ≤ d) (sym is) at in
              let t = theory.never-before-the-damage (plain o) macaque-good (opening_value o) h d (bits_of whole) (bits_of bytes) same k ws w x rd p n le theirs.0 theirs.1 in
              (subst (λ (g : Fault). k ≤ g.value) theirs.2 t.0, (as-the-theory k (omega arith) t.1).answers ∙ ap answered_on is)

-- ---- and of a stream that was sent, n values of a count that is allowed

module _ (bytes : List ℕ) (o : Opening) (h : opening_value o < 2 ^ 32) (n : ℕ) (few : n ≤ most_values) (sent : List ℕ) (acc : values_in bytes n o ≡ answered sent) where
  whole : (u : State Unit) × (x : List Bool) × (all_read bytes n o ≡ done sent u x)
  whole = answered-inv (all_read bytes n o) sent (sym (same-values bytes o n) ∙ acc)

  -- only the first m bytes arrived: 5, and before it the nexts hand out the first of the values that were sent
  pub a-cut-is-5 : (m : ℕ) → m < length bytes → CutUpload bytes n o sent m
  a-cut-is-5 m less =
      let C : CutShort (plain o) (opening_value o) n bytes sent m =
      theory.a-cut-is-5 (plain o) macaque-good (opening_value o) h n bytes sent whole.0 whole.1 whole.2 m less in
      record {
        fault = fault_at C.refusal;
        refuses = same-values (take m bytes) o n ∙ ap values_read C.refuses;
        five = C.five;
        reads = reads_as (take m bytes) o h n few C.refusal C.broken sent C.as_sent;
        all_whole = λ k le run out at.
            (never-before-the-damage (take m bytes) o h n few (fault_at C.refusal) (same-values (take m bytes) o n ∙ ap values_read C.refuses) bytes (8 * m) front k le run out at).0;
      }
    where
      front : take (8 * m) (bits_of (take m bytes)) ≡ take (8 * m) (bits_of bytes)
      front =
          let p = bits_of (take m bytes) in
          let q = bits_of (drop m bytes) in
          let parts : p ++ q ≡ bits_of bytes = sym (bits-append (take m bytes) (drop m bytes)) ∙ ap bits_of (take-append-drop m bytes) in
          sym (take-append-le (8 * m) p q (omega (arith, bits-front m bytes (omega arith)))) ∙ ap (take (8 * m)) parts

  -- further bytes follow: 8 behind n values, at the first bit of these bytes; and the nexts hand out all values that were sent
  pub two-run-together : (more : List ℕ) → 0 < length more
      → (values_in (bytes ++ more) n o ≡ refused (fault_in 8 n (8 * length bytes))) × ReadsAsSent (bytes ++ more) o (fault_in 8 n (8 * length bytes)) sent
  two-run-together more any =
      let T = theory.two-run-together (plain o) macaque-good (opening_value o) h n bytes sent whole.0 whole.1 whole.2 more any in
      let r : StreamRefusal = record { no = 8; value = n; place = 8 * length bytes } in
      let B : BrokenAt (plain o) (opening_value o) n (bits_of (bytes ++ more)) r =
      theory.read-until-it-broke (plain o) (opening_value o) n (bits_of (bytes ++ more)) r T.0 in
      let all : sent ≡ B.values = cc (B.reads, T.1) in (
        same-values (bytes ++ more) o n ∙ ap values_read T.0,
        reads_as (bytes ++ more) o h n few r B sent (take_all n sent (omega (arith, ap length all, B.long)) ∙ all),
      )
