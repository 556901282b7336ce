-- Why a user keeps the count: of a stream that arrived whole, with a limit above its count, padding is read as a further value, or refused as damage.
-- Computed. Assumes nothing.
use mathlib.Core.Path.{◌≡◌, refl}
use mathlib.Core.List.{List, [], ◌∷◌}
use Prim.Native.Nat.{ℕ, zero, suc}
use lib.Count.{count_leading_zeros, count_trailing_zeros}
use Rattle.bits.specs.Bits.{field, value, starts, bits_of, first_bytes, bytes_of, padded}
use Rattle.stream.specs.Format.{lead_of, trail_of, window_for, window_by, kind_of, body_of, bits_for, Gather, without_first, Stream, macaque_of, State, fresh}
use Rattle.stream.specs.Write.{lossless, kept_from, encode, after, wrote, stream_of}
use Rattle.stream.specs.Read.{read_raw, read_word, read_body, read_one, reopened, unopened}
use Rattle.stream.specs.Rescue.{read_whole, rescue}

module _ {A : Type 0} (G : Gather A) where
  abbrev S : Stream A
  S = macaque_of without_first G

  -- the state after these inputs, opened on 3F800000
  abbrev pub behind : List ℕ → State A
  behind xs = wrote lossless S (fresh S 0x3F80_0000) xs

  -- one value, 3F800001
  pub one-value-written : stream_of lossless S 0x3F80_0000 (0x3F80_0001 ∷ []) ≡ 0xFE ∷ 0x0C ∷ []
  unfolding kept_from first_bytes bytes_of field value padded lead_of trail_of count_leading_zeros count_trailing_zeros kind_of body_of bits_for encode
  one-value-written = refl

  pub kept-by-its-count : rescue S 1 (fresh S 0x3F80_0000) (bits_of (0xFE ∷ 0x0C ∷ [])) ≡ reopened (behind (0x3F80_0001 ∷ []))
  unfolding value starts bits_of field read_raw read_word read_body read_one read_whole kept_from lead_of trail_of count_leading_zeros count_trailing_zeros window_for window_by kind_of body_of bits_for encode after
  kept-by-its-count = refl

  -- the two bits of padding are a repeat of it
  pub padding-read : (n : ℕ) → rescue S (suc (suc n)) (fresh S 0x3F80_0000) (bits_of (0xFE ∷ 0x0C ∷ [])) ≡ reopened (behind (0x3F80_0001 ∷ 0x3F80_0001 ∷ []))
  unfolding value starts bits_of field read_raw read_word read_body read_one read_whole kept_from lead_of trail_of count_leading_zeros count_trailing_zeros window_for window_by kind_of body_of bits_for encode after
  padding-read zero = refl
  padding-read (suc n) = refl

  -- one value that repeats the opening value
  pub repeat-written : stream_of lossless S 0x3F80_0000 (0x3F80_0000 ∷ []) ≡ 0x80 ∷ []
  unfolding kept_from first_bytes bytes_of field value padded lead_of trail_of count_leading_zeros count_trailing_zeros kind_of body_of bits_for encode
  repeat-written = refl

  -- no window was set yet: its padding is 6
  pub padding-refused : (l n : ℕ) → rescue S (suc (suc n)) (fresh S l) (bits_of (0x80 ∷ [])) ≡ unopened (record { no = 6; value = 1; place = 2 })
  unfolding value starts bits_of field read_raw read_word read_body read_one read_whole
  padding-refused l n = refl
