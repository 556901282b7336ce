-- Any stream in lent bytes that reading accepts, even one that this writer would not write: reopened at k of its n values it goes on from the first k.
-- Assumes nothing.
use mathlib.Core.Path.{◌≡◌, sym, ap, ◌∙◌, subst}
use mathlib.Core.Bool.{Bool}
use mathlib.Core.List.{List, ◌++◌}
use Prim.Native.Nat.{ℕ, ◌+◌, ◌*◌, ◌^◌, ◌≤◌, ◌<◌}
use native.Mathlib.Omega.{arith}
use lib.ListN.{length, take, length-append}
use lib.Seq.{length-take-le}
use Rattle.bits.specs.Bits.{bits_of, whole_bytes, padded, laid_in, cut_in}
use Rattle.bits.proofs.Bytes.{length-bits_of}
use Rattle.bits.proofs.InBytes.{cut_in-used, cut_in-laid_in-used, take-bits}
use Rattle.stream.specs.Format.{Stream, State, fresh, most_values}
use Rattle.stream.specs.Write.{kept, Keeps, written, wrote}
use Rattle.stream.specs.Read.{done, read_all}
use Rattle.stream.specs.Needs.{Good}
use Rattle.stream.specs.Made.{Resumed}
use Rattle.stream.proofs.Writing.{fresh-small, place_after}
use Rattle.stream.proofs.Reading.{Whole, WholeOf, whole}
use Rattle.stream.proofs.Rule.{RuledIn, fresh-ruled, read-ruled, usable-if}
use Rattle.stream.proofs.Gathered.{SeenIn, seen_read}
use Rattle.stream.proofs.Reopen.{any-opened, goes_on_lem}
use Rattle.stream.proofs.Holds.{padded-back}

-- the bits in use behind a cut within the first `used` bytes, and where new ones are laid there
pub cut_left : (used : ℕ) (buf : List ℕ) → used ≤ length buf → (p : ℕ) → p ≤ 8 * used
    → bits_of (take (whole_bytes p) (cut_in buf p)) ≡ padded (take p (bits_of (take used buf)))
cut_left used buf fits p le =
    ap bits_of (cut_in-used buf p (omega arith)) ∙ padded-back (take p (bits_of buf)) ∙ ap padded (sym (take-bits buf used p fits le))

pub cut-and-laid : (used : ℕ) (buf : List ℕ) → used ≤ length buf → (p : ℕ) → p ≤ 8 * used → (new : List Bool) → p + length new ≤ 8 * length buf
    → bits_of (take (whole_bytes (p + length new)) (laid_in (cut_in buf p) p new)) ≡ padded (take p (bits_of (take used buf)) ++ new)
cut-and-laid used buf fits p le new room =
    ap bits_of (cut_in-laid_in-used buf p (omega arith) new room) ∙ padded-back (take p (bits_of buf) ++ new)
    ∙ ap (λ (z : List Bool). padded (z ++ new)) (sym (take-bits buf used p fits le))

pub any-resumed : {A : Type 0} (rule : ℕ → ℕ → ℕ) (S : Stream A) → Good S.format → Keeps S.format.width rule → (l : ℕ) → l < 2 ^ S.format.width
    → (n k used : ℕ) (buf : List ℕ) → k ≤ n → n ≤ most_values → used ≤ length buf → (vs : List ℕ) (t : State A) (r : List Bool)
    → read_all S n (fresh S l) (bits_of (take used buf)) ≡ done vs t r → Resumed rule S l n k used buf vs
any-resumed {A} rule S good K l hl n k used buf le most fits vs t r h =
    let f : State A = fresh S l in
    let hf : f.last < 2 ^ S.format.width = fresh-small S S.format.width l hl in
    let bits : List Bool = bits_of (take used buf) in
    let o = any-opened S good l hl n k le bits vs t r h in
    let m : State A = o.state in
    let W : Whole S k f bits (take k vs) m o.rest = subst (WholeOf S k f bits) o.reads (whole S good k f bits hf) in
    let c : m.count ≡ k = omega (arith, W.counted) in
    let long : length bits ≡ 8 * used = length-bits_of (take used buf) ∙ ap (λ (z : ℕ). 8 * z) (length-take-le used buf fits) in
    let p : m.place ≤ 8 * used = omega (arith, W.placed, ap length W.cut, length-append W.front o.rest) in
    record {
      state = m;
      opens = o.opens;
      may_be_used = usable-if S.format good (length buf) m (omega arith) (omega arith) (subst (RuledIn S.format) o.reads (read-ruled S good k f bits hf (fresh-ruled S l)));
      placed = p;
      counted = c;
      seen = subst (SeenIn S f) o.reads (seen_read S k f bits);
      reads = λ ys by room.
          let new : List Bool = written rule S m ys in
          let end : (wrote rule S m ys).place ≡ m.place + length new = place_after S m (kept rule S m ys) in
          ap (read_all S (k + length ys) f) (ap (λ (z : ℕ). bits_of (take (whole_bytes z) (laid_in (cut_in buf m.place) m.place new))) end
          ∙ cut-and-laid used buf fits m.place p new (omega arith))
          ∙ goes_on_lem S good l hl rule K k bits (take k vs) m o.rest o.reads ys by;
    }
