-- A chain of writes and reopenings, each with a bound of its own, has room: a stream is that of a lossless run over the values that it keeps, whatever bounds
-- chose them. Assumes nothing.
use mathlib.Core.Path.{◌≡◌, refl, sym, ap, ◌∙◌, subst}
use mathlib.Core.Bool.{Bool, true}
use mathlib.Core.List.{List, [], ◌∷◌, ◌++◌}
use Prim.Native.Nat.{ℕ, ◌+◌, ◌*◌, ◌^◌, ◌≤◌, ◌<◌}
use native.Mathlib.Omega.{arith}
use lib.ListN.{length, take, length-append}
use lib.Seq.{length-take-le}
use Rattle.bits.specs.Bits.{Below, bytes_of, whole_bytes, padded, laid_in}
use Rattle.bits.proofs.Below.{below-nil, below-take, below-append}
use Rattle.models.specs.Answers.{answered, answered_on}
use Rattle.models.specs.Limits.{most_values}
use Rattle.models.specs.Bound.{bound_allowed}
use Rattle.models.specs.Causes.{bound_causes}
use Rattle.models.specs.declared.ErrorBound.{ErrorBound}
use Rattle.stream.specs.Format.{macaque, Stream, State, usable}
use Rattle.stream.specs.Write.{lossless, kept, Keeps, encode, after, wrote, wrote_in, stream_of}
use Rattle.stream.specs.Calls.{Coder}
use Rattle.stream.specs.Made.{MadeBy}
use Rattle.stream.specs.Made as theory
use Rattle.stream.specs.Needs.{GoodCoder}
use Rattle.stream.specs.Size.{most_bits}
use Rattle.stream.proofs.Formats.{macaque-good}
use Rattle.stream.proofs.Writing.{fresh-small, count-after, length-kept, kept-below, kept-lossless, lossless-keeps}
use Rattle.stream.proofs.Made as spine
use Rattle.stream.proofs.Near.{wrote-near}
use Rattle.stream.proofs.Calls as calls
use Rattle.stream.proofs.Size.{most-grows, place-by-two}
use Rattle.coding.specs.Keep.{keep_rule}
use Rattle.coding.proofs.Keeping.{keeps}
use Rattle.macaque_v.specs.State.{Known, stream_in, state_of, writer_of, is_first, opening_value, opened}
use Rattle.macaque_v.specs.Write.{coder_of}
use Rattle.macaque_v.specs.Calls.{new_answer, write_answer, write_memory}
use Rattle.macaque_v.specs.Read.{reopen_answer, reopen_memory}
use Rattle.macaque_v.specs.Kept.{kept_by, state_by, WrittenBy}
use Rattle.macaque_v.specs.Size.{most_of, most_bytes_answer, Turn, writes, reopens, AtMost, AllAccepted}
use Rattle.macaque_v.specs.declared.MacaqueV.{MacaqueV}
use Rattle.macaque_v.specs.declared.Opening.{Opening}
use Rattle.macaque_v.proofs.Accepting.{coder-good, no-bound-refuses}
use Rattle.macaque_v.proofs.Promises.{a-write-keeps-the-length, reopening-keeps-the-length}
use Rattle.macaque_v.proofs.Held.{last-small}
use Rattle.macaque_v.proofs.Room.{raw-fresh, new_told, most-bytes-told}

-- a writer of a bound, if it kept what it is handed
abbrev pub plain : ErrorBound → Opening → Coder Known MacaqueV
plain b o = record { stream = stream_in (is_first o); rule = lossless; first = bound_causes b; hold = writer_of b (is_first o); state = state_of }

plain-good : (b : ErrorBound) (o : Opening) → GoodCoder (plain b o)
plain-good b o = record { format = macaque-good; keeps = lossless-keeps 32; holds = λ s. refl; near = omega arith }

-- the writer m, of the bound b, stands behind the kept values vs, and the bytes in use are theirs
abbrev pub Behind : ErrorBound → Opening → List ℕ → List ℕ → MacaqueV → Type 0
Behind b o vs buf m = MadeBy (plain b o) (opening_value o) vs buf m

-- the state behind them
abbrev pub behind : Opening → List ℕ → State Known
behind o vs = wrote lossless (stream_in (is_first o)) (opened o) vs

module _ (o : Opening) (hl : opening_value o < 2 ^ 32) {b : ErrorBound} {vs buf : List ℕ} {m : MacaqueV} (M : Behind b o vs buf m) (bv : Below 32 vs) where
  abbrev S : Stream Known
  S = stream_in (is_first o)

  abbrev s : State Known
  s = behind o vs

  behind-place : m.place ≡ s.place
  behind-place = ap (λ (w : MacaqueV). w.place) M.writer

  pub behind-length : m.length ≡ length vs
  behind-length =
      ap (λ (w : MacaqueV). w.length) M.writer ∙ count-after S (opened o) (kept lossless S (opened o) vs) ∙ omega (arith, length-kept S lossless (opened o) vs)

  in-theory : theory.Made lossless S (opening_value o) vs buf s
  in-theory = (calls.in-theory (plain b o) (plain-good b o) (opening_value o) M).1

  -- ---- values are written on it

  module _ (ok : bound_allowed b ≡ true) (n : ℕ) (most : n ≤ most_values) (room : whole_bytes (most_of n o) ≤ length buf) (ys : List ℕ) (few : length vs + length ys ≤ n) where
    abbrev ks : List ℕ
    ks = kept (keep_rule b) S s ys

    abbrev pub next : MacaqueV
    next = writer_of b (is_first o) (wrote (keep_rule b) S s ys)

    next_place : (wrote (keep_rule b) S s ys).place ≤ 8 * length buf
    next_place =
        let all = subst (λ (raw : Bool). (wrote (keep_rule b) S s ys).place ≤ most_bits macaque raw (length vs + length ys)) (raw-fresh (is_first o))
        (omega (arith, place-by-two S macaque-good (omega arith) lossless (keep_rule b) (opened o) vs ys)) in
        omega (arith, all, room, most-grows macaque macaque-good (omega arith) (is_first o) (length vs + length ys) n few)

    pub behind-accepts : write_answer m ys buf ≡ answered_on next
    unfolding write_answer
    behind-accepts =
        let may : usable macaque (length buf) s ≡ true = spine.made-usable lossless S (opening_value o) in-theory macaque-good (lossless-keeps 32) hl bv (omega arith) in
        let counted : s.count ≡ length vs = sym (ap (λ (w : MacaqueV). w.length) M.writer) ∙ behind-length in
        ap (λ (w : MacaqueV). write_answer w ys buf) M.writer
        ∙ calls.allowed (coder_of b (is_first o)) (coder-good b (is_first o)) s ys buf (no-bound-refuses b ok) may (wrote-near S macaque-good lossless (opened o) vs (omega arith)) (omega arith) next_place

    pub behind-goes-on : Behind b o (vs ++ ks) (write_memory m ys buf) next
    unfolding write_answer write_memory
    behind-goes-on =
        let same : kept lossless S s ks ≡ ks = kept-lossless S s ks in
        let fits : (after S s (kept lossless S s ks)).place ≤ 8 * length buf = subst (λ (z : List ℕ). (after S s z).place ≤ 8 * length buf) (sym same) next_place in
        let made : theory.Made lossless S (opening_value o) (vs ++ ks) (wrote_in (keep_rule b) S s ys buf) (wrote (keep_rule b) S s ys) =
        subst (λ (z : List ℕ). theory.Made lossless S (opening_value o) (vs ++ ks) (laid_in buf s.place (encode S s z)) (after S s z)) same (spine.made-write lossless S (opening_value o) in-theory ks fits) in
        let left : write_memory m ys buf ≡ wrote_in (keep_rule b) S s ys buf =
        ap (λ (w : MacaqueV). write_memory w ys buf) M.writer
        ∙ (calls.wrote_on (coder_of b (is_first o)) (coder-good b (is_first o)) s ys buf next (ap (λ (w : MacaqueV). write_answer w ys buf) (sym M.writer) ∙ behind-accepts)).2 in
        subst (λ (z : List ℕ). Behind b o (vs ++ ks) z next) (sym left) (calls.by-theory (plain b o) (plain-good b o) (opening_value o) next refl made)

    pub more-length : length (vs ++ ks) ≡ length vs + length ys
    more-length = omega (arith, length-append vs ks, length-kept S (keep_rule b) s ys)

    pub more-below : Below 32 ys → Below 32 (vs ++ ks)
    more-below by =
        let last = last-small S (opened o) (kept lossless S (opened o) vs) (fresh-small S 32 (opening_value o) hl) (subst (Below 32) (sym (kept-lossless S (opened o) vs)) bv) in
        below-append 32 vs ks bv (kept-below S 32 (keep_rule b) (keeps b 32) s ys last by)

  -- ---- it is reopened, with any bound

  module _ (c : ErrorBound) (ok : bound_allowed c ≡ true) (most : length vs ≤ most_values) (k : ℕ) (le : k ≤ length vs) where
    abbrev pub resumed : MacaqueV
    resumed = writer_of c (is_first o) (behind o (take k vs))

    pub behind-reopens : (reopen_answer buf (whole_bytes m.place) m.length k o c ≡ answered resumed)
        × Behind c o (take k vs) (reopen_memory buf (whole_bytes m.place) m.length k o c) resumed
    unfolding reopen_answer reopen_memory
    behind-reopens =
        let other : Behind c o vs buf (writer_of c (is_first o) s) = calls.by-theory (plain c o) (plain-good c o) (opening_value o) (writer_of c (is_first o) s) refl in-theory in
        let r = calls.reopening-goes-back (plain c o) (plain-good c o) (opening_value o) other bv hl (no-bound-refuses c ok) most k le in
        rw (behind-place, behind-length) r

-- ---- turn by turn

pub all-have-room : (o : Opening) → opening_value o < 2 ^ 32 → (n : ℕ) → n ≤ most_values → (turns : List Turn) {b : ErrorBound} {vs buf : List ℕ} {m : MacaqueV} → Behind b o vs buf m
    → Below 32 vs → bound_allowed b ≡ true → whole_bytes (most_of n o) ≤ length buf → length vs ≤ n → AtMost n (length vs) turns → AllAccepted o m buf turns
all-have-room o hl n most [] M bv ok room few A = tt
all-have-room o hl n most (writes ys ∷ turns) {b} {vs} {buf} {m} M bv ok room few A =
    let long = more-length o hl M bv ok n most room ys A.0 in
    let later = subst (λ (k : ℕ). AtMost n k turns) (sym long) A.2 in (
      next o hl M bv ok n most room ys A.0,
      behind-accepts o hl M bv ok n most room ys A.0,
      all-have-room o hl n most turns (behind-goes-on o hl M bv ok n most room ys A.0) (more-below o hl M bv ok n most room ys A.0 A.1) ok
          (omega (arith, room, a-write-keeps-the-length m ys buf)) (omega (arith, long, A.0)) later,
    )
all-have-room o hl n most (reopens k c ∷ turns) {b} {vs} {buf} {m} M bv ok room few A =
    let r = behind-reopens o hl M bv c A.1 (omega arith) k A.0 in
    let long : length (take k vs) ≡ k = length-take-le k vs A.0 in
    let later = subst (λ (j : ℕ). AtMost n j turns) (sym long) A.2 in (
      resumed o hl M bv c A.1 (omega arith) k A.0,
      r.0,
      all-have-room o hl n most turns r.1 (below-take 32 k vs bv) A.1
          (omega (arith, room, reopening-keeps-the-length c o hl buf (whole_bytes m.place) m.length k)) (omega (arith, long, A.0, few)) later,
    )

-- "a fresh writer lent that many bits, rounded up to bytes, never refuses n values with 4": every turn is accepted, be it one write, a chain of writes, or one that is
-- stopped and reopened in between, at any value and with any bound
pub most-bytes-are-enough : (b : ErrorBound) (o : Opening) → opening_value o < 2 ^ 32 → (n k : ℕ) → most_bytes_answer n o ≡ answered k → (buf : List ℕ) → k ≤ length buf
    → (m : MacaqueV) → new_answer b o ≡ answered m → (turns : List Turn) → AtMost n 0 turns → AllAccepted o m buf turns
unfolding new_answer
most-bytes-are-enough b o hl n k h buf room m opens turns A =
    let t = most-bytes-told n k o h in
    let fresh : Behind b o [] buf m = calls.a-fresh-writer (plain b o) (plain-good b o) (opening_value o) buf m opens in
    all-have-room o hl n t.0 turns fresh (below-nil 32) (new_told b o m opens).0 (omega (arith, t.1, room)) (omega arith) A

-- a stream that any rule wrote which keeps values of 32 bits, as that of an earlier version or of another bound: reopened, it has room as one that was written by this one
pub an-older-stream-has-room : (rule : ℕ → ℕ → ℕ) → Keeps 32 rule → (o : Opening) → opening_value o < 2 ^ 32 → {xs buf : List ℕ} {used : ℕ} → WrittenBy rule o xs buf used → Below 32 xs
    → (n : ℕ) → n ≤ most_values → whole_bytes (most_of n o) ≤ length buf → length xs ≤ n → (k : ℕ) → k ≤ length xs → (b : ErrorBound) → bound_allowed b ≡ true → (turns : List Turn) → AtMost n k turns
    → (m : MacaqueV) × (reopen_answer buf used (length xs) k o b ≡ answered m) × AllAccepted o m (reopen_memory buf used (length xs) k o b) turns
an-older-stream-has-room rule K o hl {xs} {buf} {used} W bx n most room few k le b ok turns A =
    let S : Stream Known = stream_in (is_first o) in
    let vs : List ℕ = kept_by rule o xs in
    let same : kept lossless S (opened o) vs ≡ vs = kept-lossless S (opened o) vs in
    let is : behind o vs ≡ state_by rule o xs = ap (after S (opened o)) same in
    let bytes : take (whole_bytes (behind o vs).place) buf ≡ stream_of lossless S (opening_value o) vs =
    ap (λ (s : State Known). take (whole_bytes s.place) buf) is ∙ ap (λ (u : ℕ). take u buf) (sym W.in_use) ∙ W.bytes ∙ ap (λ (z : List ℕ). bytes_of (padded (encode S (opened o) z))) (sym same) in
    let M : Behind b o vs buf (writer_of b (is_first o) (behind o vs)) = record { writer = refl; bytes = bytes } in
    let bv : Below 32 vs = kept-below S 32 rule K (opened o) xs (fresh-small S 32 (opening_value o) hl) bx in
    let long : length vs ≡ length xs = length-kept S rule (opened o) xs in
    let in_use : used ≡ whole_bytes (behind o vs).place = W.in_use ∙ ap (λ (s : State Known). whole_bytes s.place) (sym is) in
    let counted : length xs ≡ (behind o vs).count = sym long ∙ sym (behind-length o hl M bv) in
    rw (in_use, counted) (all-have-room o hl n most (reopens k b ∷ turns) M bv ok room (omega (arith, long, few)) (omega (arith, long, le), ok, A))
