-- Lent bytes that hold bits from their start, the last byte filled up with zeros: what is put behind the bits, and what a cut leaves of them.
-- Assumes nothing.
use mathlib.Core.Path.{◌≡◌, refl, sym, ap, ◌∙◌}
use mathlib.Core.Bool.{Bool}
use mathlib.Core.List.{List, [], ◌∷◌, ◌++◌, append-nil}
use Prim.Native.Nat.{ℕ, ◌+◌, ◌*◌, ◌≤◌}
use native.Mathlib.Omega.{arith}
use lib.ListN.{length, take, length-append, length-take}
use lib.Seq.{take-take, take_at}
use Rattle.bits.specs.Bits.{bits_of, bytes_of, whole_bytes, padded, laid, laid_in, cut_in}
use Rattle.bits.proofs.Bytes.{length-bits_of, length-bytes_of, bits-take, bits-bytes, bytes_take, length-padded, take-padded}
use Rattle.bits.proofs.InBytes.{laid_in-used, cut_in-used, take-bits}

abbrev pub Holds : List ℕ → List Bool → Type 0
Holds buf bits = take (whole_bytes (length bits)) buf ≡ bytes_of (padded bits)

-- whole bytes and back
pub padded-back : (bits : List Bool) → bits_of (bytes_of (padded bits)) ≡ padded bits
padded-back bits = bits-bytes (whole_bytes (length bits)) (padded bits) (length-padded bits)

module _ (buf : List ℕ) (bits : List Bool) (holds : Holds buf bits) where
  pub holds-room : whole_bytes (length bits) ≤ length buf
  holds-room = omega (arith, ap length holds, length-take (whole_bytes (length bits)) buf, length-bytes_of (padded bits), length-padded bits)

  pub holds-bits : bits_of (take (whole_bytes (length bits)) buf) ≡ padded bits
  holds-bits = ap bits_of holds ∙ padded-back bits

  pub holds-front : take (length bits) (bits_of buf) ≡ bits
  holds-front =
      sym (take-bits buf (whole_bytes (length bits)) (length bits) holds-room (omega arith))
      ∙ ap (take (length bits)) holds-bits ∙ take-padded bits (length bits) refl

  -- more bits are put behind them, or none
  pub holds-laid : (new : List Bool) → length bits + length new ≤ 8 * length buf → Holds (laid_in buf (length bits) new) (bits ++ new)
  unfolding laid_in laid
  holds-laid [] h =
      let n : ℕ = whole_bytes (length bits) in
      ap (λ (z : List Bool). take (whole_bytes (length z)) (bytes_of (bits_of buf))) (append-nil bits)
      ∙ sym (bytes_take (length buf) n (bits_of buf) (length-bits_of buf) holds-room)
      ∙ ap bytes_of (sym (bits-take n buf holds-room)) ∙ ap bytes_of holds-bits
      ∙ ap (λ (z : List Bool). bytes_of (padded z)) (sym (append-nil bits))
  holds-laid (x ∷ new) h =
      ap (λ (n : ℕ). take (whole_bytes n) (laid_in buf (length bits) (x ∷ new))) (length-append bits (x ∷ new))
      ∙ laid_in-used buf (length bits) (x ∷ new) h (omega arith)
      ∙ ap (λ (z : List Bool). bytes_of (padded (z ++ (x ∷ new)))) holds-front

  -- cut behind the first of them
  pub holds-cut : (first later : List Bool) → bits ≡ first ++ later → Holds (cut_in buf (length first)) first
  holds-cut first later e =
      let n : length bits ≡ length first + length later = ap length e ∙ length-append first later in
      let p : ℕ = length first in
      cut_in-used buf p (omega (arith, holds-room))
      ∙ ap (λ (z : List Bool). bytes_of (padded z))
      (sym (take-take p (length bits) (bits_of buf) (omega arith)) ∙ ap (take p) (holds-front ∙ e) ∙ take_at first later p refl)
