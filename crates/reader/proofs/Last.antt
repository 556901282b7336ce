-- The last value read is the one where reading stands. Assumes nothing.
use mathlib.Core.Path.{◌≡◌, refl, ◌∙◌, subst}
use mathlib.Core.Bool.{Bool}
use mathlib.Core.List.{List, [], ◌∷◌}
use Prim.Native.Nat.{ℕ, zero, suc, ◌<◌}
use native.Mathlib.Omega.{arith}
use lib.ListN.{length, drop}
use Rattle.stream.specs.Format.{Stream, State, advance, bare}
use Rattle.stream.specs.Read.{Step, got, halt, Reading, done, stopped, push, follow, step_at, read_n}
use Rattle.bits.specs.Bits.{bits_of}
use Rattle.macaque_v.specs.State.{mode_of}
use Rattle.macaque_v.specs.ReadRun.{state_at}
use Rattle.macaque_v.specs.Inner.ReadRun.{Reads}
use Rattle.macaque_v.specs.declared.read_run.Cursor.{Cursor}
use Rattle.reader.specs.Run.{last_in}

-- of values behind the value l, the last is where reading stands
abbrev LastIs : {A : Type 0} → ℕ → Reading A → Type 0
LastIs l (done vs t r) = last_in l vs ≡ t.last
LastIs l (stopped f) = Unit

last-push : {A : Type 0} (l v : ℕ) (q : Reading A) → LastIs v q → LastIs l (push v q)
last-push l v (done vs t r) h = h
last-push l v (stopped f) h = tt

last-read : {A : Type 0} (S : Stream A) (n : ℕ) (s : State A) (bs : List Bool) → LastIs s.last (read_n S n s bs)
unfolding read_n
last-read S zero s bs = refl
last-read {A} S (suc n) s bs = go (step_at S s bs) (λ t b. last-read S n t b)
  where
    go : (q : Step) → ((t : State A) (b : List Bool) → LastIs t.last (read_n S n t b))
        → LastIs s.last (follow s q (λ v win used. push v (read_n S n (advance S s v win used) (drop used bs))))
    go (got v win used) ih = last-push s.last v (read_n S n (advance S s v win used) (drop used bs)) (ih (advance S s v win used) (drop used bs))
    go (halt m) ih = tt

-- it is not the one before
from-any : (l m : ℕ) (vs : List ℕ) → 0 < length vs → last_in l vs ≡ last_in m vs
from-any l m [] h = absurd (omega arith)
from-any l m (v ∷ vs) h = refl

pub last-of-none : (first : Bool) (bytes : List ℕ) (from to : Cursor) (vs : List ℕ) → Reads first bytes from 0 vs to → last_in 0 vs ≡ 0
last-of-none first bytes from to [] R = refl
last-of-none first bytes from to (v ∷ vs) R = absurd (omega (arith, R.long))

pub last-of-some : (first : Bool) (bytes : List ℕ) (from to : Cursor) (n : ℕ) (vs : List ℕ) → 0 < n → Reads first bytes from n vs to → last_in 0 vs ≡ to.last
last-of-some first bytes from to n vs h R =
    from-any 0 from.last vs (omega (arith, R.long))
    ∙ subst (LastIs from.last) R.values (last-read (bare (mode_of first)) n (state_at from) (drop from.place (bits_of bytes)))
