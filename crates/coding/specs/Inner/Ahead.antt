-- The bits ahead of a place as a word, and what one value read of them says. Assumes nothing.
use Rattle.std.specs.Prelude.{◌≡◌, Bool, true, false, List, [], ◌∷◌, ℕ, zero, suc, ◌+◌, ◌*◌, ◌^◌, ◌≤◌, ◌<◌, length, take, drop, Result, Ok, Err}
use Rattle.bits.specs.Bits.{field, field_at, bits_of}
use Rattle.stream.specs.Read.{Step, got, halt}
use Rattle.stream.specs.Format.{unset, window_in}
use Rattle.coding.specs.declared.decode.Got.{Got}
use Rattle.coding.specs.declared.decode.Stop.{Stop}
use Rattle.coding.specs.declared.decode.Stop.TheVariants.{EndsEarly, NoWindow, WindowNotAllowed}

-- a window that is set leaves a bit
abbrev pub WindowSound : ℕ → ℕ → Type 0
WindowSound lead trail = unset (window_in lead trail) ≡ false → lead + trail < 32

-- the first `left` bits of a word
abbrev pub bits_in : ℕ → ℕ → List Bool
bits_in word left = take left (field 64 word)

pub record IsPart (word skip width r : ℕ) : Type 0 where
  pub is : r ≡ field_at skip width (field 64 word)
  pub small : r < 2 ^ width

-- the bits of the stream from the place on: 45 of them, or as many as there are
abbrev pub IsAhead : List ℕ → ℕ → ℕ → ℕ → Type 0
IsAhead bytes place word left = bits_in word left ≡ take 45 (drop place (bits_of bytes))

-- ---- repeats

-- the code words of k repeats
unfoldable pub repeated : ℕ → List Bool
repeated zero = []
repeated (suc k) = true ∷ false ∷ repeated k

-- a word begins with k repeats
pub record AtTop (word k : ℕ) : Type 0 where
  pub bits : take (2 * k) (field 64 word) ≡ repeated k
  pub most : k ≤ 28

-- k repeats stand at the place
pub record RepeatsAt (bytes : List ℕ) (place k : ℕ) : Type 0 where
  pub bits : take (2 * k) (drop place (bits_of bytes)) ≡ repeated k
  pub there : place + 2 * k ≤ 8 * length bytes
  pub most : k ≤ 28

-- a word that begins with `0` holds 45 bits of the stream from the place on, and the repeats that a word begins with stand there
pub record IsWord (bytes : List ℕ) (place word : ℕ) : Type 0 where
  pub kept : word < 2 ^ 63 → bits_in word 45 ≡ take 45 (drop place (bits_of bytes))
  pub same : (k : ℕ) → AtTop word k → RepeatsAt bytes place k

-- ---- one value

-- the number of the refusal that stops a value's reading
abbrev pub stop_number : Stop → ℕ
stop_number EndsEarly = 5
stop_number NoWindow = 6
stop_number WindowNotAllowed = 7

abbrev pub says_decoded : Result Got Stop → Step
says_decoded (Ok g) = got g.value (window_in g.lead g.trail) g.used
says_decoded (Err s) = halt (stop_number s)
