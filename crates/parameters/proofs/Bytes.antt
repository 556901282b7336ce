-- Numbers in bytes: the number back, and a number from four bytes. Assumes nothing.
use mathlib.Core.Path.{◌≡◌}
use mathlib.Core.List.{List, [], ◌∷◌}
use Prim.Native.Nat.{ℕ, zero, suc, ◌+◌, ◌*◌, ◌/◌, ◌%◌, ◌^◌, ◌≤◌, ◌<◌}
use native.Mathlib.Nat.{pow-suc}
use native.Mathlib.Omega.{arith}
use lib.ListN.{length, take, drop, get_or}
use lib.Seq.{drop-cons}
use Rattle.parameters.specs.Bytes.{little_endian, number_in}

-- the number back
pub number-back : (w v : ℕ) → v < 256 ^ w → number_in (little_endian w v) ≡ v
unfolding little_endian number_in
number-back zero v h = omega arith
number-back (suc w) v h =
    let e : number_in (little_endian w (v / 256)) ≡ v / 256 = number-back w (v / 256) (omega (arith, pow-suc 256 w)) in
    omega arith

-- four bytes of a list, and the number that has four bytes
pub four-at : (l : List ℕ) (at : ℕ) → at + 4 ≤ length l → take 4 (drop at l) ≡ get_or l at 0 ∷ get_or l (at + 1) 0 ∷ get_or l (at + 2) 0 ∷ get_or l (at + 3) 0 ∷ []
four-at l at h =
    let one : at + 1 ≡ suc at = omega arith in
    let two : at + 2 ≡ suc (suc at) = omega arith in
    let three : at + 3 ≡ suc (suc (suc at)) = omega arith in
    rw (one, two, three, drop-cons l at 0 (omega arith), drop-cons l (suc at) 0 (omega arith), drop-cons l (suc (suc at)) 0 (omega arith), drop-cons l (suc (suc (suc at))) 0 (omega arith))

pub four-back : (n a b c d : ℕ) → n ≡ a + 256 * b + 65536 * c + 16777216 * d → a < 256 → b < 256 → c < 256 → d < 256 → little_endian 4 n ≡ a ∷ b ∷ c ∷ d ∷ []
unfolding little_endian
four-back n a b c d is la lb lc ld =
    let e0 : n % 256 ≡ a = omega arith in
    let r1 : n / 256 ≡ b + 256 * c + 65536 * d = omega arith in
    let e1 : (b + 256 * c + 65536 * d) % 256 ≡ b = omega arith in
    let r2 : (b + 256 * c + 65536 * d) / 256 ≡ c + 256 * d = omega arith in
    let e2 : (c + 256 * d) % 256 ≡ c = omega arith in
    let r3 : (c + 256 * d) / 256 ≡ d = omega arith in
    let e3 : d % 256 ≡ d = omega arith in
    rw (e0, r1, e1, r2, e2, r3, e3)
