-- A stream gives as many values as it is asked for. Assumes nothing.
use mathlib.Core.Path.{◌≡◌, refl, sym, ap, ◌∙◌}
use mathlib.Core.Bool.{Bool}
use mathlib.Core.List.{List}
use mathlib.Core.Option.{Option, none, some}
use Prim.Native.Nat.{ℕ, zero, suc}
use lib.ListN.{length, drop}
use Rattle.bits.specs.Bits.{bits_of}
use Rattle.models.specs.Answers.{answered, Done}
use Rattle.models.proofs.Judged.{same_answer, not-answered}
use Rattle.stream.specs.Format.{Stream, State, advance}
use Rattle.stream.specs.Read.{Reading, done, stopped, Step, got, push, follow, step_at, read_n, leftover, ended, read_all}
use Rattle.stream.specs.Read as stream
use Rattle.macaque_v.specs.State.{Known, stream_in, is_first, opened}
use Rattle.macaque_v.specs.Read.{values_read, values_in}
use Rattle.macaque_v.specs.declared.Opening.{Opening}

abbrev Many : {A : Type 0} → ℕ → Reading A → Type 0
Many n (done vs s rest) = length vs ≡ n
Many n (stopped f) = Done

many-pushed : {A : Type 0} (n v : ℕ) (q : Reading A) → Many n q → Many (suc n) (push v q)
many-pushed n v (done vs s rest) h = ap suc h
many-pushed n v (stopped f) h = tt

many_read : {A : Type 0} (S : Stream A) (n : ℕ) (s : State A) (bs : List Bool) → Many n (read_n S n s bs)
unfolding read_n
many_read S zero s bs = refl
many_read {A} S (suc n) s bs = go (step_at S s bs) (λ t cs. many_read S n t cs)
  where
    go : (q : Step) → ((t : State A) (cs : List Bool) → Many n (read_n S n t cs))
        → Many (suc n) (follow s q (λ v win used. push v (read_n S n (advance S s v win used) (drop used bs))))
    go (got v win used) ih = many-pushed n v (read_n S n (advance S s v win used) (drop used bs)) (ih (advance S s v win used) (drop used bs))
    go (stream.halt m) ih = tt

many-ended : {A : Type 0} (n : ℕ) (q : Reading A) → Many n q → Many n (ended q)
unfolding ended
many-ended n (done vs s rest) h = go (leftover s.place rest)
  where
    go : (o : Option ℕ) → Many n (stream.ended_by vs s rest o)
    go none = h
    go (some p) = tt
many-ended n (stopped f) h = tt

many-answered : {A : Type 0} (n : ℕ) (q : Reading A) (vs : List ℕ) → Many n q → values_read q ≡ answered vs → length vs ≡ n
many-answered n (done us s rest) vs h e = ap length (sym (same_answer e)) ∙ h
many-answered n (stopped f) vs h e = absurd (not-answered e)

pub as-many-values : (bytes : List ℕ) (n : ℕ) (o : Opening) (vs : List ℕ) → values_in bytes n o ≡ answered vs → length vs ≡ n
as-many-values bytes n o vs e =
    let S : Stream Known = stream_in (is_first o) in
    many-answered n (read_all S n (opened o) (bits_of bytes)) vs (many-ended n (read_n S n (opened o) (bits_of bytes)) (many_read S n (opened o) (bits_of bytes))) e
