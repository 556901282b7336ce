-- What the bytes of a form give when they are read. Assumes nothing.
use mathlib.Core.Path.{◌≡◌}
use Prim.Native.Nat.{ℕ, ◌<◌, ◌^◌}
use Rattle.models.specs.Answers.{answered}
use Rattle.models.specs.Floats.{plain_bits}
use Rattle.parameters.specs.Bytes.{little_endian}
use Rattle.parameters.specs.Forms.{by_flag, answered_ends, form_bytes, swing_from, pmc_mean_from}
use Rattle.parameters.specs.declared.Form.TheVariants.{Value, Flagged, Both}
use Rattle.parameters.proofs.Bytes.{number-back}

-- "4 the value"
pub value_read : (min max v : ℕ) → v < 2 ^ 32 → pmc_mean_from min max (form_bytes (Value v)) ≡ answered (plain_bits v)
unfolding pmc_mean_from little_endian
value_read min max v small = rw (number-back 4 v small)

-- "5 by flag"
pub flagged_read : (min max flag v : ℕ) → v < 2 ^ 32 → swing_from min max (form_bytes (Flagged flag v)) ≡ by_flag min max flag v
unfolding swing_from little_endian
flagged_read min max flag v small = rw (number-back 4 v small)

-- "8 both"
pub both_read : (min max a b : ℕ) → a < 2 ^ 32 → b < 2 ^ 32 → swing_from min max (form_bytes (Both a b)) ≡ answered_ends a b
unfolding swing_from little_endian
both_read min max a b small smaller = rw (number-back 4 a small, number-back 4 b smaller)
