-- What is stored of a segment, by the writer of its residuals' stream, which is made aside. Assumes nothing.
use Rattle.std.specs.Prelude.{cond, List, ℕ, ◌+◌, eqb, take}
use Rattle.bits.specs.Bits.{whole_bytes}
use Rattle.macaque_v.specs.State.{state_of}
use Rattle.macaque_v.specs.declared.MacaqueV.{MacaqueV}
use Rattle.segments.specs.Segment.{counted_bytes}
use Rattle.segments.specs.Calls.{Stored, stored}

-- of a writer and the buffer that it wrote to
unfoldable pub stored_by : ℕ → ℕ → ℕ → MacaqueV → List ℕ → Stored
stored_by model first last m buf =
    stored model first last (state_of m) (counted_bytes (take (whole_bytes m.place) buf) m.length)

-- the length of counted bytes, where the stream has so many
abbrev pub counted_length : ℕ → ℕ → ℕ
counted_length used count = cond (eqb count 0) 0 (used + 1)
