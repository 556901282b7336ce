-- How many bits a loop over the bytes of a field moves at once. Assumes nothing.
use Rattle.std.specs.Prelude.{ℕ, ◌+◌, ◌%◌, ◌≤◌, ◌<◌}

-- r of `left` bits are moved with the bit at pos: at least one, and all of them stand in one byte
pub record Chunk (pos left r : ℕ) : Type 0 where
  pub some : 0 < r
  pub within : r ≤ left
  pub fits : pos % 8 + r ≤ 8
