-- `Made` holds of a fresh writer, each accepted write keeps it, and so does reopening at any value: however often a stream is stopped and resumed, its
-- bytes and its state are those of one fresh run. What has it reads back as the kept values, and its state may be used. Assumes nothing.
use mathlib.Core.Path.{◌≡◌, refl, sym, ap, ◌∙◌, subst}
use mathlib.Core.Bool.{Bool, true, false}
use mathlib.Core.List.{List, [], ◌++◌}
use Prim.Native.Nat.{ℕ, ◌+◌, ◌*◌, ◌^◌, ◌≤◌, ◌<◌}
use native.Mathlib.Omega.{arith}
use lib.ListN.{length, take, drop, replicate, take-append-drop}
use Rattle.bits.specs.Bits.{Below, bits_of, first_bytes, bytes_of, whole_bytes, padding, padded, laid_in, cut_in}
use Rattle.stream.specs.Format.{Stream, State, fresh, most_values, usable}
use Rattle.stream.specs.Write.{lossless, kept_from, kept, Keeps, encode, after, written, wrote, wrote_in, stream_of}
use Rattle.stream.specs.Read.{done, read_all, Reopened, reopened, reopen, buffer_after}
use Rattle.stream.specs.Made.{Made}
use Rattle.stream.specs.Needs.{Good}
use Rattle.stream.proofs.Writing.{fresh-small, place_after, count-after, length-kept, kept-below, written-append, wrote-append, kept-lossless, lossless-keeps}
use Rattle.stream.proofs.Reopen.{fresh-read, fresh-reopen}
use Rattle.stream.proofs.Holds.{Holds, holds-room, holds-bits, holds-laid, holds-cut}
use Rattle.stream.proofs.Rule.{Ruled, fresh-ruled, after-ruled, usable-if}

module _ {A : Type 0} (rule : ℕ → ℕ → ℕ) (S : Stream A) (l : ℕ) where
  ends_at : (xs : List ℕ) (s : State A) → s ≡ wrote rule S (fresh S l) xs → s.place ≡ length (written rule S (fresh S l) xs)
  ends_at xs s e = ap (λ (t : State A). t.place) e ∙ place_after S (fresh S l) (kept rule S (fresh S l) xs) ∙ omega arith

  pub made-fresh : (buf : List ℕ) → Made rule S l [] buf (fresh S l)
  unfolding first_bytes bytes_of padded encode after kept_from
  made-fresh buf = record { state = refl; bytes = refl }

  module _ {xs buf : List ℕ} {s : State A} (M : Made rule S l xs buf s) where
    stands : s.place ≡ length (written rule S (fresh S l) xs)
    stands = ends_at xs s M.state

    holds : Holds buf (written rule S (fresh S l) xs)
    holds = subst (λ (p : ℕ). take (whole_bytes p) buf ≡ stream_of rule S l xs) stands M.bytes

    -- the stream lies within the buffer
    pub made-room : whole_bytes s.place ≤ length buf
    made-room = omega (arith, stands, holds-room buf (written rule S (fresh S l) xs) holds)

    -- any list that there is room for, the empty one too
    pub made-write : (ys : List ℕ) → (wrote rule S s ys).place ≤ 8 * length buf
        → Made rule S l (xs ++ ys) (wrote_in rule S s ys buf) (wrote rule S s ys)
    made-write ys room =
        let f : State A = fresh S l in
        let W : List Bool = written rule S f xs in
        let new : List Bool = written rule S s ys in
        let next : wrote rule S s ys ≡ wrote rule S f (xs ++ ys) = ap (λ (t : State A). wrote rule S t ys) M.state ∙ sym (wrote-append S rule f xs ys) in
        let joined : W ++ new ≡ written rule S f (xs ++ ys) =
        ap (λ (t : State A). W ++ written rule S t ys) M.state ∙ sym (written-append S rule f xs ys) in
        let far : length W + length new ≤ 8 * length buf = omega (arith, stands, place_after S s (kept rule S s ys)) in
        let end : (wrote rule S s ys).place ≡ length (W ++ new) = ends_at (xs ++ ys) (wrote rule S s ys) next ∙ ap length (sym joined) in
        record {
          state = next;
          bytes =
              ap (λ (n : ℕ). take (whole_bytes n) (laid_in buf s.place new)) end
              ∙ ap (λ (n : ℕ). take (whole_bytes (length (W ++ new))) (laid_in buf n new)) stands
              ∙ holds-laid buf W holds new far ∙ ap (λ (z : List Bool). bytes_of (padded z)) joined;
        }

    -- a state that was made may be used, with the buffer that holds it
    pub made-usable : Good S.format → Keeps S.format.width rule → l < 2 ^ S.format.width → Below S.format.width xs → length xs ≤ most_values
        → usable S.format (length buf) s ≡ true
    made-usable good K hl bx n =
        let f : State A = fresh S l in
        let vs : List ℕ = kept rule S f xs in
        let hf : f.last < 2 ^ S.format.width = fresh-small S S.format.width l hl in
        let c : s.count ≡ length xs = ap (λ (t : State A). t.count) M.state ∙ count-after S f vs ∙ omega (arith, length-kept S rule f xs) in
        usable-if S.format good (length buf) s (omega (arith, made-room)) (omega arith)
        (subst (λ (t : State A). Ruled S.format t) (sym M.state) (after-ruled S good f vs hf (kept-below S S.format.width rule K f xs hf bx) (fresh-ruled S l)))

    module _ (good : Good S.format) (K : Keeps S.format.width rule) (hl : l < 2 ^ S.format.width) (bx : Below S.format.width xs) where
      -- the bits in use
      pub made_bits : bits_of (take (whole_bytes s.place) buf) ≡ padded (written rule S (fresh S l) xs)
      made_bits = ap (λ (n : ℕ). bits_of (take (whole_bytes n) buf)) stands ∙ holds-bits buf (written rule S (fresh S l) xs) holds

      -- reopened at k: the state after the first k inputs, and the cut bytes are made of these
      pub made-reopen : (k : ℕ) → k ≤ length xs
          → (reopen S (length xs) k (fresh S l) (bits_of (take (whole_bytes s.place) buf)) ≡ reopened (wrote rule S (fresh S l) (take k xs)))
          × Made rule S l (take k xs) (buffer_after (reopen S (length xs) k (fresh S l) (bits_of (take (whole_bytes s.place) buf))) buf) (wrote rule S (fresh S l) (take k xs))
      made-reopen k le =
          let f : State A = fresh S l in
          let m : State A = wrote rule S f (take k xs) in
          let E : List Bool = written rule S f (take k xs) in
          let D : List Bool = written rule S m (drop k xs) in
          let parts : written rule S f xs ≡ E ++ D = ap (written rule S f) (sym (take-append-drop k xs)) ∙ written-append S rule f (take k xs) (drop k xs) in
          let opens : reopen S (length xs) k f (bits_of (take (whole_bytes s.place) buf)) ≡ reopened m =
          ap (reopen S (length xs) k f) made_bits ∙ fresh-reopen S good l hl rule K xs bx k le in (
            opens,
            record {
              state = refl;
              bytes =
                  ap (λ (q : Reopened A). take (whole_bytes m.place) (buffer_after q buf)) opens
                  ∙ ap (λ (n : ℕ). take (whole_bytes n) (cut_in buf n)) (ends_at (take k xs) m refl)
                  ∙ holds-cut buf (written rule S f xs) holds E D parts;
            },
          )

      -- it reads back as exactly the kept values, with the state that was handed back
      pub made-read : read_all S (length xs) (fresh S l) (bits_of (take (whole_bytes s.place) buf))
          ≡ done (kept rule S (fresh S l) xs) s (replicate (padding s.place) false)
      made-read =
          let f : State A = fresh S l in
          ap (read_all S (length xs) f) made_bits ∙ fresh-read S good l hl rule K xs bx
          ∙ ap (λ (n : ℕ). done (kept rule S f xs) (wrote rule S f xs) (replicate (padding n) false)) (sym stands)
          ∙ ap (λ (t : State A). done (kept rule S f xs) t (replicate (padding s.place) false)) (sym M.state)

-- lossless: as the inputs
pub made-read-lossless : {A : Type 0} (S : Stream A) (l : ℕ) {xs buf : List ℕ} {s : State A} → Made lossless S l xs buf s
    → Good S.format → l < 2 ^ S.format.width → Below S.format.width xs
    → read_all S (length xs) (fresh S l) (bits_of (take (whole_bytes s.place) buf)) ≡ done xs s (replicate (padding s.place) false)
made-read-lossless S l {xs} {buf} {s} M good hl bx =
    made-read lossless S l M good (lossless-keeps S.format.width) hl bx
    ∙ ap (λ (vs : List ℕ). done vs s (replicate (padding s.place) false)) (kept-lossless S (fresh S l) xs)
