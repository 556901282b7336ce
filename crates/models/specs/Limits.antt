-- The limits of 01, "Numbers and bounds", on counts, and the cost of a model as it is reported.
use Rattle.std.specs.Prelude.{Bool, ◌&&◌, ℕ, leb, pos, Float}
use Rattle.std.specs.Float.Ieee as Ieee
use Rattle.std.specs.Float.{binary32}

-- at most 65,536 values a call or stream
abbrev pub most_values : ℕ
most_values = 65536

-- the size of the metadata: 1 to 65,535
abbrev pub most_metadata : ℕ
most_metadata = 65535

abbrev pub metadata_allowed : ℕ → Bool
metadata_allowed m = leb 1 m && leb m most_metadata

-- bytes for each value, in f32: both numbers are exact there, and the quotient is rounded
unfoldable pub cost : ℕ → ℕ → Float
cost bytes values = Ieee.div binary32 (Ieee.of_int binary32 (pos bytes)) (Ieee.of_int binary32 (pos values))
