-- `listing::line::number` meets its contract. Assumes nothing.
use mathlib.Core.Path.{◌≡◌, refl, ap, ◌∙◌}
use Prim.Native.Nat.{ℕ, ◌+◌}
use native.Mathlib.Omega.{arith}
use lib.Seq.{sets}
use Rattle.listing.specs.Text.{digits_of, places, decimal}
use Rattle.listing.proofs.Putting.{put_byte, length_digits}
use Rattle.listing.proofs.line.number.Goals as goal

pub returns : goal.returns
returns c =
    let a = c.args in
    let k = c.places-k.result in
    let e : k ≡ places a.n = c.places-k.ensures.0 in record {
      put = put_byte (decimal a.n) a.end (a.at + k + 1)
          (c.digits.ensures ∙ ap (λ (j : ℕ). sets a.line.now a.at (digits_of 10 j a.n)) e)
          (omega (arith, length_digits 10 (places a.n) a.n))
          refl;
      most = omega arith;
    }
