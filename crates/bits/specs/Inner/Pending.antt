-- Bits that wait to be laid, and what appending to them means: all of them laid is as if each had been put when it came. Assumes nothing.
use Rattle.std.specs.Prelude.{◌≡◌, Bool, List, ◌++◌, ℕ, ◌+◌, ◌*◌, ◌^◌, ◌<◌, length}
use Rattle.bits.specs.Bits.{bits_of, field, laid}
use Rattle.bits.specs.declared.Pending.{Pending}

pub record Waiting (p : Pending) : Type 0 where
  pub fewer : p.held < 64
  pub small : p.word < 2 ^ p.held

-- whatever is laid at the place next, the bytes l with what waits are as good as v
pub record Lays (l : List ℕ) (p : Pending) (place : ℕ) (v : List ℕ) : Type 0 where
  pub waits : Waiting p
  pub here : 8 * p.at + p.held ≡ place
  pub goes_on : (b : List Bool) → 0 < length b → laid (bits_of l) (8 * p.at) (field p.held p.word ++ b) ≡ laid (bits_of v) place b

pub record Appended (l : List ℕ) (p : Pending) (width value : ℕ) (m : List ℕ) (r : Pending) : Type 0 where
  pub waits : Waiting r
  pub long : length m ≡ length l
  pub place : 8 * r.at + r.held ≡ 8 * p.at + p.held + width
  pub digits : laid (bits_of m) (8 * r.at) (field r.held r.word) ≡ laid (bits_of l) (8 * p.at) (field p.held p.word ++ field width value)
