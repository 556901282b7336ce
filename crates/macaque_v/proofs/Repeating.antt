-- Repeats are read at once: each is the last value again, two bits on. A value that is spread over places. And how far values and repeats in the last window reach. Assumes nothing.
use mathlib.Core.Path.{◌≡◌, refl, sym, ap, ap₂, ◌∙◌, subst}
use mathlib.Core.Bool.{Bool, true, false}
use mathlib.Core.List.{List, [], ◌∷◌, ◌++◌, append_assoc, append-nil}
use Prim.Native.Nat.{ℕ, zero, suc, ◌+◌, ◌-◌, ◌*◌, ◌^◌, ◌≤◌, ◌<◌}
use native.Mathlib.Omega.{arith}
use lib.Bits.{bit_xor}
use lib.ListN.{length, take, drop, set, replicate, length-append, length-drop, length-replicate, length-set, replicate-append-replicate, take-append-drop}
use lib.Seq.{take_at, take-suc-set, drop-drop, length-take-le, take-append-add}
use Rattle.bits.specs.Bits.{field, field_at, starts, bits_of}
use Rattle.stream.specs.Format.{macaque, Window, Mode, with_first, without_first, raw_next, State, advance, window_in, unset, bare}
use Rattle.stream.specs.Read.{Step, got, done, push, follow, read_word, read_body, read_one, read_n}
use Rattle.coding.specs.Inner.Ahead.{repeated, RepeatsAt, IsWord}
use Rattle.coding.proofs.Decoding.{kept-says}
use Rattle.macaque_v.specs.State.{mode_of}
use Rattle.macaque_v.specs.Inner.ReadRun.{ReadableAt, Reads, onward, AtOnce, ReadsOn, bare_state}
use Rattle.macaque_v.specs.declared.read_run.Cursor.{Cursor}
use Rattle.macaque_v.proofs.ReadingRun.{next-is, readable-next, one-read, reads_none, reads_then}

-- ---- reading

-- behind a value none is raw
pub later-coded : (m : Mode) (n : ℕ) → 0 < n → raw_next m n ≡ false
later-coded without_first n h = refl
later-coded with_first zero h = absurd (omega arith)
later-coded with_first (suc n) h = refl

same_step : (win : Window) (l : ℕ) (r : List Bool) → read_one macaque false win l (true ∷ false ∷ r) ≡ got l win 2
unfolding read_one read_body read_word starts
same_step win l r = refl

-- k repeats at the front of the bits are k times the last value
pub repeats-read : (m : Mode) (l : ℕ) (win : Window) (r : List Bool) (k p n : ℕ) → 0 < n
    → read_n (bare m) k (bare_state l win p n) (repeated k ++ r) ≡ done (replicate k l) (bare_state l win (p + 2 * k) (n + k)) r
unfolding read_n repeated
repeats-read m l win r zero p n h =
    let e : p ≡ p + 2 * 0 = omega arith in
    let f : n ≡ n + 0 = omega arith in
    ap₂ (λ (a b : ℕ). done [] (bare_state l win a b) r) e f
repeats-read m l win r (suc k) p n h =
    let e : (p + 2) + 2 * k ≡ p + 2 * suc k = omega arith in
    let f : suc n + k ≡ n + suc k = omega arith in
    let s : State Unit = bare_state l win p n in
    let rest : List Bool = repeated k ++ r in
    ap (λ (raw : Bool). follow s (read_one macaque raw win l (true ∷ false ∷ rest)) (λ v w u. push v (read_n (bare m) k (advance (bare m) s v w u) (drop u (true ∷ false ∷ rest))))) (later-coded m n h)
    ∙ ap (λ (q : Step). follow s q (λ v w u. push v (read_n (bare m) k (advance (bare m) s v w u) (drop u (true ∷ false ∷ rest))))) (same_step win l rest)
    ∙ ap (push l) (repeats-read m l win r k (p + 2) (suc n) (omega arith))
    ∙ ap₂ (λ (a b : ℕ). done (l ∷ replicate k l) (bare_state l win a b) r) e f

pub reads-repeats : (first : Bool) (bytes : List ℕ) (at : Cursor) → ReadableAt bytes at → 0 < at.count → (k : ℕ) → RepeatsAt bytes at.place k
    → Reads first bytes at k (replicate k at.last) (onward at at.last (at.place + 2 * k) k)
reads-repeats first bytes at s h k R =
    let rest : List Bool = drop at.place (bits_of bytes) in
    let win : Window = window_in at.lead at.trail in
    record {
      values =
          ap (read_n (bare (mode_of first)) k (bare_state at.last win at.place at.count)) (sym (take-append-drop (2 * k) rest) ∙ ap (λ (z : List Bool). z ++ drop (2 * k) rest) R.bits)
          ∙ repeats-read (mode_of first) at.last win (drop (2 * k) rest) k at.place at.count h
          ∙ ap (done (replicate k at.last) (bare_state at.last win (at.place + 2 * k) (at.count + k))) (drop-drop (2 * k) at.place (bits_of bytes));
      long = length-replicate k at.last;
      counted = refl;
      readable = record { within = R.there; near = omega (arith, s.near); small = s.small; held = s.held };
    }

-- ---- places

module _ (old : List ℕ) (i v : ℕ) (h : i + 28 ≤ length old) where
  abbrev spread_out : List ℕ
  spread_out = take i old ++ (replicate 28 v ++ drop (i + 28) old)

  at_i : length (take i old) ≡ i
  at_i = length-take-le i old (omega arith)

  pub spread-front : (k : ℕ) → k ≤ 28 → take (i + k) spread_out ≡ take i old ++ replicate k v
  spread-front k m =
      let e : 28 ≡ k + (28 - k) = omega arith in
      let rest : List ℕ = drop (i + 28) old in
      ap (λ (n : ℕ). take (n + k) spread_out) (sym at_i)
      ∙ take-append-add (take i old) (replicate 28 v ++ rest) k
      ∙ ap (λ (z : List ℕ). take i old ++ take k (z ++ rest)) (ap (λ (n : ℕ). replicate n v) e ∙ sym (replicate-append-replicate k (28 - k) v))
      ∙ ap (λ (z : List ℕ). take i old ++ take k z) (append_assoc (replicate k v) (replicate (28 - k) v) rest)
      ∙ ap (λ (z : List ℕ). take i old ++ z) (take_at (replicate k v) (replicate (28 - k) v ++ rest) k (length-replicate k v))

  pub spread-long : length spread_out ≡ length old
  spread-long =
      omega (arith, length-append (take i old) (replicate 28 v ++ drop (i + 28) old), length-append (replicate 28 v) (drop (i + 28) old), at_i, length-replicate 28 v, length-drop (i + 28) old)

pub on-repeats : (first : Bool) (bytes : List ℕ) (at : Cursor) (i n : ℕ) (old new : List ℕ) → ReadableAt bytes at → 0 < at.count → i + 28 ≤ length old
    → (k : ℕ) → i + k ≤ n → RepeatsAt bytes at.place k → new ≡ take i old ++ (replicate 28 at.last ++ drop (i + 28) old) → ReadsOn first bytes at i n old new (onward at at.last (at.place + 2 * k) k)
on-repeats first bytes at i n old new s some h k most R e =
    record {
      many = k;
      values = replicate k at.last;
      reads = reads-repeats first bytes at s some k R;
      fits = most;
      front = ap (take (i + k)) e ∙ spread-front old i at.last h k R.most;
      long = ap length e ∙ spread-long old i at.last h;
    }

-- ---- values and repeats in the last window

-- j places are reached
pub record Reached (first : Bool) (bytes : List ℕ) (from : Cursor) (i n : ℕ) (old new : List ℕ) (at : Cursor) (j : ℕ) : Type 0 where
  pub on : ReadsOn first bytes from i n old new at
  pub here : i + on.many ≡ j

pub reached-none : (first : Bool) (bytes : List ℕ) (at : Cursor) (i n : ℕ) (out : List ℕ) → ReadableAt bytes at → i ≤ n → Reached first bytes at i n out out at i
reached-none first bytes at i n out s h =
    let e : i + 0 ≡ i = omega arith in
    record {
      on =
          record {
            many = 0;
            values = [];
            reads = reads_none first bytes at s;
            fits = omega arith;
            front = ap (λ (k : ℕ). take k out) e ∙ sym (append-nil (take i out));
            long = refl;
          };
      here = e;
    }

pub reached-start : (first : Bool) (bytes : List ℕ) (from : Cursor) (i n : ℕ) (out : List ℕ) → ReadableAt bytes from → i ≤ n
    → Reached first bytes from i n out out (onward from from.last from.place (i - i)) i
reached-start first bytes from i n out s h =
    let e : from.count ≡ from.count + (i - i) = omega arith in
    subst (λ (m : ℕ). Reached first bytes from i n out out (record { last = from.last; lead = from.lead; trail = from.trail; place = from.place; count = m }) i) e
    (reached-none first bytes from i n out s h)

module _ (first : Bool) (bytes : List ℕ) {from at to : Cursor} (i n : ℕ) (old new : List ℕ) (j : ℕ) (R : Reached first bytes from i n old new at j) where
  pub reached-more : j < n → n ≤ length old → Reads first bytes at 1 (to.last ∷ []) to → Reached first bytes from i n old (set new j to.last) to (j + 1)
  reached-more h g Q =
      let v : ℕ = to.last in
      let o : ReadsOn first bytes from i n old new at = R.on in
      let k : ℕ = o.many in
      let less : j < length new = omega (arith, o.long) in
      let e : i + (k + 1) ≡ suc j = omega (arith, R.here) in
      record {
        on =
            record {
              many = k + 1;
              values = o.values ++ (v ∷ []);
              reads = reads_then first bytes o.reads Q;
              fits = omega (arith, R.here);
              front =
                  ap (λ (m : ℕ). take m (set new j v)) e ∙ take-suc-set new j v less
                  ∙ ap (λ (z : List ℕ). z ++ (v ∷ [])) (ap (λ (m : ℕ). take m new) (sym R.here) ∙ o.front)
                  ∙ append_assoc (take i old) o.values (v ∷ []);
              long = length-set new j v ∙ o.long;
            };
        here = omega (arith, R.here);
      }

  -- more are read
  pub reached-on : {new' : List ℕ} → ReadsOn first bytes at j n new new' to → (j' : ℕ) → to.count + j ≡ at.count + j' → Reached first bytes from i n old new' to j'
  reached-on {new'} Q j' f =
      let o : ReadsOn first bytes from i n old new at = R.on in
      let k : ℕ = o.many in
      let e : i + (k + Q.many) ≡ j + Q.many = omega (arith, R.here) in
      record {
        on =
            record {
              many = k + Q.many;
              values = o.values ++ Q.values;
              reads = reads_then first bytes o.reads Q.reads;
              fits = omega (arith, R.here, Q.fits);
              front =
                  ap (λ (m : ℕ). take m new') e ∙ Q.front
                  ∙ ap (λ (z : List ℕ). z ++ Q.values) (ap (λ (m : ℕ). take m new) (sym R.here) ∙ o.front)
                  ∙ append_assoc (take i old) o.values Q.values;
              long = Q.long ∙ o.long;
            };
        here = omega (arith, R.here, Q.reads.counted);
      }

module _ (first : Bool) (bytes : List ℕ) (from : Cursor) (some : 0 < from.count) (i n : ℕ) (old new : List ℕ) (last place j : ℕ)
    (R : Reached first bytes from i n old new (onward from last place (j - i)) j) (g : n ≤ length old) (word : ℕ) (W : IsWord bytes place word) where
  abbrev here : Cursor
  here = onward from last place (j - i)

  -- a value in the window
  pub reached-kept : j < n → word < 2 ^ 63 → unset (window_in from.lead from.trail) ≡ false → (y : ℕ) → y ≡ field_at 1 (32 - from.lead - from.trail) (field 64 word) * 2 ^ from.trail
      → Reached first bytes from i n old (set new j (bit_xor last y)) (onward from (bit_xor last y) (place + (33 - from.lead - from.trail)) (j + 1 - i)) (j + 1)
  reached-kept h small set_there y is =
      let s : ReadableAt bytes here = R.on.reads.readable in
      let v : ℕ = bit_xor last y in
      let used : ℕ = 33 - from.lead - from.trail in
      let win : Window = window_in from.lead from.trail in
      let coded : false ≡ raw_next (mode_of first) here.count = sym (later-coded (mode_of first) here.count (omega arith)) in
      let says : read_one macaque false win last (take 45 (drop place (bits_of bytes))) ≡ got v win used =
      kept-says word from.lead from.trail small (s.held set_there) bytes place last y W set_there is in
      let e : from.count + (j - i) + 1 ≡ from.count + (j + 1 - i) = omega (arith, R.here) in
      subst (λ (m : ℕ). Reached first bytes from i n old (set new j v) (record { last = v; lead = from.lead; trail = from.trail; place = place + used; count = m }) (j + 1)) e
      (reached-more first bytes i n old new j R h g
      (one-read first bytes here _ (sym (next-is first bytes here s false coded (got v win used) says)) (readable-next first bytes here s false coded v from.lead from.trail used says)))

  -- repeats
  pub reached-repeats : (k : ℕ) → AtOnce word (length new - j) (n - j) k → 0 < k → (new' : List ℕ) → new' ≡ take j new ++ (replicate 28 last ++ drop (j + 28) new)
      → Reached first bytes from i n old new' (onward from last (place + 2 * k) (j + k - i)) (j + k)
  reached-repeats k A more new' is =
      let room : 28 ≤ length new - j = A.free more in
      let e : from.count + (j - i) + k ≡ from.count + (j + k - i) = omega (arith, R.here) in
      subst (λ (m : ℕ). Reached first bytes from i n old new' (record { last = last; lead = from.lead; trail = from.trail; place = place + 2 * k; count = m }) (j + k)) e
      (reached-on first bytes i n old new j R
      (on-repeats first bytes here j n new new' R.on.reads.readable (omega arith) (omega (arith, room)) k (omega (arith, A.wanted, R.here, R.on.fits)) (W.same k A.top) is) (j + k) (omega arith))
