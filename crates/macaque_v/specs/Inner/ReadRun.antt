-- Words of inner contracts and of proofs, beside specs/ReadRun. Assumes nothing.
use Rattle.std.specs.Prelude.{◌≡◌, Bool, List, ◌++◌, ℕ, ◌+◌, ◌*◌, ◌^◌, ◌≤◌, ◌<◌, length, take, Float, Result, Ok, Err}
use Rattle.std.specs.Prelude as Prelude
use Rattle.std.specs.Prelude.{Some, None}
use Rattle.std.proofs.Math.Option.{Option, none, some}
use Rattle.models.specs.Floats.{zero_f, fresh_bits}
use Rattle.models.specs.Answers.{fault_in, answered, refused}
use Rattle.models.specs.Refusals.{fault_of}
use Rattle.models.specs.declared.Refusal.{Refusal}
use Rattle.stream.specs.Format.{Window, Mode, gather_from, State, bare}
use Rattle.stream.specs.Read as stream
use Rattle.stream.specs.Read.{Reading, done, stopped, read_n, ended}
use Rattle.stream.specs.Calls.{fault_at}
use Rattle.macaque_v.specs.State.{MinMax, gather_sum, Known, gather_known, mode_of}
use Rattle.coding.specs.declared.decode.Stop.{Stop}
use Rattle.coding.specs.Inner.Ahead.{WindowSound, AtTop, stop_number}
use Rattle.macaque_v.specs.declared.read_run.Cursor.{Cursor}
use Rattle.macaque_v.specs.declared.read_run.Aim.{Aim}
use Rattle.macaque_v.specs.declared.read_run.Aim.TheVariants as OfAim
use Rattle.macaque_v.specs.declared.read_run.Tally.{Tally}
use Rattle.macaque_v.specs.ReadRun.{state_at, ahead, next_from, end_said}

-- ---- where reading stands

-- it may be read on from there: any place that a state may hold, and behind it 45 bits a value
pub record ReadableAt (bytes : List ℕ) (at : Cursor) : Type 0 where
  pub within : at.place ≤ 8 * length bytes
  pub near : at.place ≤ 2 ^ 63 + 45 * at.count
  pub small : at.last < 2 ^ 32
  pub held : WindowSound at.lead at.trail

-- ---- n values from there

abbrev pub read_from : Bool → List ℕ → Cursor → ℕ → Reading Unit
read_from first bytes from n = read_n (bare (mode_of first)) n (state_at from) (ahead bytes from)

-- they are vs, and reading stands at `to` behind them
pub record Reads (first : Bool) (bytes : List ℕ) (from : Cursor) (n : ℕ) (vs : List ℕ) (to : Cursor) : Type 0 where
  pub values : read_from first bytes from n ≡ done vs (state_at to) (ahead bytes to)
  pub long : length vs ≡ n
  pub counted : to.count ≡ from.count + n
  pub readable : ReadableAt bytes to

-- reading stops for this cause
pub record StopsBy {A : Type 0} (reading : Reading A) (cause : Refusal) : Type 0 where
  pub fault : stream.StreamRefusal
  pub stops : reading ≡ stopped fault
  pub numbered : fault_at fault ≡ fault_of cause

-- one value more: where reading stands behind it, or what stops it where reading stands
abbrev pub StrideSays : Bool → List ℕ → Cursor → Result Cursor Stop → Type 0
StrideSays first bytes at (Ok to) = (answered to ≡ next_from first bytes at) × ReadableAt bytes to
StrideSays first bytes at (Err s) = refused (fault_in (stop_number s) at.count at.place) ≡ next_from first bytes at

abbrev pub NextSays : Bool → List ℕ → Cursor → Result Cursor Refusal → Type 0
NextSays first bytes at (Ok to) = (answered to ≡ next_from first bytes at) × ReadableAt bytes to
NextSays first bytes at (Err r) = refused (fault_of r) ≡ next_from first bytes at

-- where reading stands behind so many values more in the same window
abbrev pub onward : Cursor → ℕ → ℕ → ℕ → Cursor
onward from last place more = record { last = last; lead = from.lead; trail = from.trail; place = place; count = from.count + more }

-- k repeats of a word are taken, where there is room to spread a value
pub record AtOnce (word room left k : ℕ) : Type 0 where
  pub top : AtTop word k
  pub wanted : k ≤ left
  pub free : 0 < k → 28 ≤ room

-- some values more are read, and stand in the places from i on, before n; those before i keep what they held
pub record ReadsOn (first : Bool) (bytes : List ℕ) (at : Cursor) (i n : ℕ) (old new : List ℕ) (to : Cursor) : Type 0 where
  pub many : ℕ
  pub values : List ℕ
  pub reads : Reads first bytes at many values to
  pub fits : i + many ≤ n
  pub front : take (i + many) new ≡ take i old ++ values
  pub long : length new ≡ length old

-- the values are in the first n places
abbrev pub FillSays : Bool → List ℕ → Cursor → ℕ → List ℕ → List ℕ → Result Cursor Refusal → Type 0
FillSays first bytes from n old new (Ok to) = Reads first bytes from n (take n new) to × (length new ≡ length old)
FillSays first bytes from n old new (Err r) = StopsBy (read_from first bytes from n) r

-- ---- what is taken in

abbrev pub min_max_in : Tally → MinMax
min_max_in t = record { min = t.min; max = t.max }

abbrev pub fresh_tally : Tally
fresh_tally = record { sum = zero_f; min = fresh_bits; max = fresh_bits }

abbrev pub with_sum : Tally → Float → Tally
with_sum t s = record { sum = s; min = t.min; max = t.max }

-- as a writer's state holds it
abbrev pub known_in : Tally → Known
known_in t = (min_max_in t, t.sum)

abbrev pub tally_of : Known → Tally
tally_of k = record { sum = k.1; min = k.0.min; max = k.0.max }

-- after the values vs, behind n others
abbrev pub tallied : Aim → Mode → ℕ → Tally → List ℕ → Tally
tallied OfAim.Nothing mode n t vs = t
tallied OfAim.Sum mode n t vs = with_sum t (gather_from gather_sum mode n t.sum vs)
tallied OfAim.All mode n t vs = tally_of (gather_from gather_known mode n (known_in t) vs)

pub record Walked (first : Bool) (bytes : List ℕ) (from : Cursor) (n : ℕ) (aim : Aim) (to : Cursor) (t : Tally) : Type 0 where
  pub values : List ℕ
  pub reads : Reads first bytes from n values to
  pub tally : t ≡ tallied aim (mode_of first) from.count fresh_tally values

abbrev pub WalkSays : Bool → List ℕ → Cursor → ℕ → Aim → Result (Cursor × Tally) Refusal → Type 0
WalkSays first bytes from n aim (Ok (to, t)) = Walked first bytes from n aim to t
WalkSays first bytes from n aim (Err r) = StopsBy (read_from first bytes from n) r

-- ---- what is left

abbrev pub says_behind : Prelude.Option ℕ → Option ℕ
says_behind None = none
says_behind (Some place) = some place

abbrev pub WholeSays : Bool → List ℕ → Cursor → ℕ → Aim → Result (Cursor × Tally) Refusal → Type 0
WholeSays first bytes from n aim (Ok (to, t)) = Walked first bytes from n aim to t × (end_said bytes to ≡ answered tt)
WholeSays first bytes from n aim (Err r) = StopsBy (ended (read_from first bytes from n)) r

-- a state that gathers nothing
abbrev pub bare_state : ℕ → Window → ℕ → ℕ → State Unit
bare_state l win p n = record { last = l; win = win; place = p; count = n; seen = tt }
