-- Words of inner contracts and of proofs, beside specs/Read. Assumes nothing.
use Rattle.std.specs.Prelude.{◌≡◌, Bool, true, false, List, ◌++◌, ℕ, ◌+◌, ◌*◌, ◌≤◌, length, take, drop, Result, Ok, Err}
use Rattle.bits.specs.Bits.{cut_in}
use Rattle.models.specs.Answers.{Said, Done, answered, refused}
use Rattle.models.specs.Refusals.{fault_of}
use Rattle.models.specs.declared.ErrorBound.{ErrorBound}
use Rattle.models.specs.declared.Refusal.{Refusal}
use Rattle.stream.specs.Format.{State, window_in}
use Rattle.stream.specs.Read as stream
use Rattle.stream.specs.Read.{Reading, ended, Reopened, reopened, unopened}
use Rattle.stream.specs.Calls as theory
use Rattle.stream.specs.Calls.{values_read}
use Rattle.macaque_v.specs.State.{Known, stream_in, writer_of, is_first, opening_value}
use Rattle.macaque_v.specs.Write.{coder_of}
use Rattle.macaque_v.specs.ReadRun.{end_said}
use Rattle.macaque_v.specs.Inner.ReadRun.{read_from, known_in}
use Rattle.macaque_v.specs.declared.MacaqueV.{MacaqueV}
use Rattle.macaque_v.specs.declared.Opening.{Opening}
use Rattle.macaque_v.specs.declared.read_run.Cursor.{Cursor}
use Rattle.macaque_v.specs.declared.read_run.Tally.{Tally}

-- the n values from where reading stands: a stream's last ones where `whole` is true, and nothing may follow them then
abbrev pub ended_where : {A : Type 0} → Bool → Reading A → Reading A
ended_where true q = ended q
ended_where false q = q

abbrev pub end_where : Bool → List ℕ → Cursor → Said Done
end_where true bytes at = end_said bytes at
end_where false bytes at = answered tt

abbrev pub values_from : Bool → Bool → List ℕ → Cursor → ℕ → Said (List ℕ)
values_from whole first bytes at n = values_read (ended_where whole (read_from first bytes at n))

-- ---- grid

-- the values from place i on, and the others keep what they held
abbrev pub drawn_at : ℕ → List ℕ → Said (List ℕ) → List ℕ
drawn_at i out (answered vs) = take i out ++ (vs ++ drop (i + length vs) out)
drawn_at i out (refused n) = out

-- the values us, and those that follow
abbrev pub after_block : List ℕ → Said (List ℕ) → Said (List ℕ)
after_block us (answered vs) = answered (us ++ vs)
after_block us (refused n) = refused n

-- what stands behind the block us is right, and drawn from place j on
pub record Right (us : List ℕ) (all : Said (List ℕ)) (j : ℕ) (old new : List ℕ) : Type 0 where
  pub rest : List ℕ
  pub are : all ≡ answered (us ++ rest)
  pub drawn-there : new ≡ drawn_at j old (answered rest)
  pub long : length new ≡ length old

-- ---- reopening and rescue

abbrev pub reopening : List ℕ → ℕ → ℕ → Opening → Reopened Known
reopening bytes count k o = theory.reopening (stream_in (is_first o)) (opening_value o) bytes count k

abbrev pub rescuing : List ℕ → ℕ → Opening → Reopened Known
rescuing bytes limit o = theory.rescuing (stream_in (is_first o)) (opening_value o) bytes limit

abbrev pub resumed : ErrorBound → Bool → Reopened Known → Said MacaqueV
resumed b first = theory.resumed (coder_of b first)

-- where reading stands, with what was gathered on the way, as a state of the theory
abbrev pub state_with : Cursor → Known → State Known
state_with at e = record { last = at.last; win = window_in at.lead at.trail; place = at.place; count = at.count; seen = e }

-- no state is reopened, for this cause
pub record Unopened (q : Reopened Known) (cause : Refusal) : Type 0 where
  pub fault : stream.StreamRefusal
  pub opens : q ≡ unopened fault
  pub numbered : theory.fault_at fault ≡ fault_of cause

-- what going through the bytes found is the state q, and its place is in them
abbrev pub OpensAs : Reopened Known → List ℕ → Result (Cursor × Tally) Refusal → Type 0
OpensAs q bytes (Ok (at, t)) = (q ≡ reopened (state_with at (known_in t))) × (at.place ≤ 8 * length bytes)
OpensAs q bytes (Err r) = Unopened q r

-- the writer there, and the buffer that is cut behind it
abbrev pub EndsIn : List ℕ → Result (Cursor × Tally) Refusal → Type 0
EndsIn buf (Ok (at, t)) = at.place ≤ 8 * length buf
EndsIn buf (Err r) = Unit

abbrev pub opened_behind : ErrorBound → Bool → Result (Cursor × Tally) Refusal → Said MacaqueV
opened_behind b first (Ok (at, t)) = answered (writer_of b first (state_with at (known_in t)))
opened_behind b first (Err r) = refused (fault_of r)

abbrev pub cut_behind : Result (Cursor × Tally) Refusal → List ℕ → List ℕ
cut_behind (Ok (at, t)) buf = cut_in buf at.place
cut_behind (Err r) buf = buf
