-- The promises of the stream, in one place and in bytes: start reading here. Each is proved in the module it cites, over any good format, any rule of
-- what is kept and anything that a state gathers. MacaqueV is the format `macaque`. Assumes nothing.
use mathlib.Core.Path.{◌≡◌, refl, sym, ap, ap₂, ◌∙◌}
use mathlib.Core.Bool.{Bool, true, false}
use mathlib.Core.List.{List, [], ◌∷◌, ◌++◌, append-nil, foldl}
use Prim.Native.Nat.{ℕ, zero, suc, ◌+◌, ◌-◌, ◌*◌, ◌^◌, ◌≤◌, ◌<◌}
use native.Mathlib.Nat.{add-zero}
use native.Mathlib.Omega.{arith}
use lib.ListN.{length, take, replicate}
use Rattle.bits.specs.Bits.{Below, field, bits_of, whole_bytes, up, padding, padded, laid_in, cut_in}
use Rattle.bits.proofs.Bytes.{length-bits_of}
use Rattle.bits.proofs.Writes.{laid-used, cut-used}
use Rattle.bits.proofs.InBytes.{bits-laid_in, length-laid_in, laid_in-nothing, laid_in-before, laid_in-after, bits-cut_in, length-cut_in, cut_in-before, cut_in-after}
use Rattle.stream.specs.Format.{Format, macaque, gorilla, Window, kind_of, code_of, window_by, bits_for, Gather, gather_from, Mode, with_first, without_first, Stream, macaque_of, State, fresh, is_raw, most_values, usable}
use Rattle.stream.specs.Write.{lossless, kept_from, kept, Keeps, written, wrote, wrote_in}
use Rattle.stream.specs.Read.{StreamRefusal, done, stopped, read_all, Reopened, reopened, unopened, reopen, buffer_after}
use Rattle.stream.specs.Made.{Made, Resumed, Rewritten}
use Rattle.stream.specs.Cases.{cases, AllRight}
use Rattle.stream.specs.Needs.{Good}
use Rattle.stream.specs.Size.{most_bits, Largest}
use Rattle.stream.proofs.Formats.{macaque-good, gorilla-good}
use Rattle.stream.proofs.Writing.{place_after, wrote-append}
use Rattle.stream.proofs.Rule.{wrote-usable}
use Rattle.stream.proofs.Gathered.{seen-after, gather-folds}
use Rattle.stream.proofs.Steps.{written_one, laid-append}
use Rattle.stream.proofs.Reopen.{refused-reopen}
use Rattle.stream.proofs.Made as spine
use Rattle.stream.proofs.AnyStream.{any-resumed}
use Rattle.stream.proofs.Marked.{marked}
use Rattle.stream.proofs.Size.{written-at-most, a-longest-code-sets-all-bits, all-bits-stay}
use Rattle.stream.proofs.Largest.{macaque-patterns, gorilla-patterns, largest}

-- ---- demand 2: what was written reads back. And demand 3: a stream that is stopped and resumed is the stream of one fresh run.

module _ {A : Type 0} (rule : ℕ → ℕ → ℕ) (S : Stream A) (l : ℕ) where
  -- a fresh writer has written nothing, whatever the buffer holds
  pub a-fresh-writer : (buf : List ℕ) → Made rule S l [] buf (fresh S l)
  a-fresh-writer = spine.made-fresh rule S l

  module _ {xs buf : List ℕ} {s : State A} (M : Made rule S l xs buf s) where
    -- a write that there is room for makes the stream of both lists; an empty one too
    pub a-write-goes-on : (ys : List ℕ) → (wrote rule S s ys).place ≤ 8 * length buf
        → Made rule S l (xs ++ ys) (wrote_in rule S s ys buf) (wrote rule S s ys)
    a-write-goes-on = spine.made-write rule S l M

    module _ (good : Good S.format) (K : Keeps S.format.width rule) (hl : l < 2 ^ S.format.width) (bx : Below S.format.width xs) where
      -- the bytes in use read back as exactly the kept values, and reading ends in the writer's own state
      pub reads-back : read_all S (length xs) (fresh S l) (bits_of (take (whole_bytes s.place) buf))
          ≡ done (kept rule S (fresh S l) xs) s (replicate (padding s.place) false)
      reads-back = spine.made-read rule S l M good K hl bx

      -- reopening at any k from 0 to n answers the writer's state after the first k inputs, and leaves bytes made of these
      pub reopening-goes-back : (k : ℕ) → k ≤ length xs
          → (reopen S (length xs) k (fresh S l) (bits_of (take (whole_bytes s.place) buf)) ≡ reopened (wrote rule S (fresh S l) (take k xs)))
          × Made rule S l (take k xs) (buffer_after (reopen S (length xs) k (fresh S l) (bits_of (take (whole_bytes s.place) buf))) buf) (wrote rule S (fresh S l) (take k xs))
      reopening-goes-back = spine.made-reopen rule S l M good K hl bx

      -- so reopening at k and writing ys leaves the bytes and the state of one fresh run over the first k inputs and ys
      pub resumed-as-one-run : (k : ℕ) → k ≤ length xs → (ys : List ℕ) → (wrote rule S (wrote rule S (fresh S l) (take k xs)) ys).place ≤ 8 * length buf
          → Made rule S l (take k xs ++ ys)
          (wrote_in rule S (wrote rule S (fresh S l) (take k xs)) ys (buffer_after (reopen S (length xs) k (fresh S l) (bits_of (take (whole_bytes s.place) buf))) buf))
          (wrote rule S (wrote rule S (fresh S l) (take k xs)) ys)
      resumed-as-one-run k le ys room =
          let m : State A = wrote rule S (fresh S l) (take k xs) in
          let back = reopening-goes-back k le in
          let within : m.place ≤ 8 * length buf = omega (arith, place_after S m (kept rule S m ys)) in
          let long = ap (λ (q : Reopened A). length (buffer_after q buf)) back.0 ∙ length-cut_in buf m.place within in
          spine.made-write rule S l back.1 ys (omega (arith, long))

      -- such a state may be used, so that a write is never refused for it
      pub its-state-may-be-used : length xs ≤ most_values → usable S.format (length buf) s ≡ true
      its-state-may-be-used = spine.made-usable rule S l M good K hl bx

-- an accepted write hands back a state that may be used, from any state that may, handed in or made
pub a-write-hands-back-a-usable-state : {A : Type 0} (rule : ℕ → ℕ → ℕ) (S : Stream A) → Good S.format → Keeps S.format.width rule
    → (bytes : ℕ) (s : State A) (xs : List ℕ) → usable S.format bytes s ≡ true → s.last < 2 ^ S.format.width → Below S.format.width xs
    → s.count + length xs ≤ most_values → (wrote rule S s xs).place ≤ 8 * bytes → usable S.format bytes (wrote rule S s xs) ≡ true
a-write-hands-back-a-usable-state = wrote-usable

-- two writes are one, from any state, handed in or made: the state after, and the bytes where the first has room
pub two-writes-are-one : {A : Type 0} (rule : ℕ → ℕ → ℕ) (S : Stream A) (s : State A) (ys zs : List ℕ)
    → wrote rule S (wrote rule S s ys) zs ≡ wrote rule S s (ys ++ zs)
two-writes-are-one rule S s ys zs = sym (wrote-append S rule s ys zs)

pub two-writes-leave-the-bytes-of-one : {A : Type 0} (rule : ℕ → ℕ → ℕ) (S : Stream A) (s : State A) (ys zs buf : List ℕ)
    → (wrote rule S s ys).place ≤ 8 * length buf → wrote_in rule S (wrote rule S s ys) zs (wrote_in rule S s ys buf) ≡ wrote_in rule S s (ys ++ zs) buf
two-writes-leave-the-bytes-of-one rule S = laid-append S rule

-- "Lossless keeps the input": a lossless stream reads back as the inputs
pub lossless-reads-back : {A : Type 0} (S : Stream A) (l : ℕ) {xs buf : List ℕ} {s : State A} → Made lossless S l xs buf s
    → Good S.format → l < 2 ^ S.format.width → Below S.format.width xs
    → read_all S (length xs) (fresh S l) (bits_of (take (whole_bytes s.place) buf)) ≡ done xs s (replicate (padding s.place) false)
lossless-reads-back = spine.made-read-lossless

module _ {A : Type 0} (F : Format) (G : Gather A) (l : ℕ) where
  abbrev in-mode : Mode → Stream A
  in-mode m = record { format = F; mode = m; gather = G }

  -- "A fresh with-first state holds +0 as its last value", and without a first value it holds the opening value
  pub with-first-opens-on-zero : (fresh (in-mode with_first) l).last ≡ 0
  with-first-opens-on-zero = refl

  pub without-first-opens-on-the-value : (fresh (in-mode without_first) l).last ≡ l
  without-first-opens-on-the-value = refl

  -- "With-first mode stores the first value's 32 bits raw", or as many as the format has: by any rule, and the first value is kept as it is
  pub a-first-value-is-stored-raw : (rule : ℕ → ℕ → ℕ) (x : ℕ) → written rule (in-mode with_first) (fresh (in-mode with_first) l) (x ∷ []) ≡ field F.width x
  unfolding bits_for
  a-first-value-is-stored-raw rule x = written_one (in-mode with_first) rule (fresh (in-mode with_first) l) x

  pub a-first-value-is-kept : (rule : ℕ → ℕ → ℕ) (x : ℕ) → kept rule (in-mode with_first) (fresh (in-mode with_first) l) (x ∷ []) ≡ x ∷ []
  unfolding kept_from
  a-first-value-is-kept rule x = refl

-- "Minimum and maximum start fresh and take in each kept value from the left, the raw first one too, and never an input that was not kept";
-- `gathers-each-value-once` says that this is a plain fold
pub gathers-over-the-kept-values : {A : Type 0} (rule : ℕ → ℕ → ℕ) (S : Stream A) (s : State A) (xs : List ℕ)
    → (wrote rule S s xs).seen ≡ gather_from S.gather S.mode s.count s.seen (kept rule S s xs)
gathers-over-the-kept-values rule S s xs = seen-after S s (kept rule S s xs)

-- "from the left, the raw first one too": where a raw value is taken in as any other, each value is taken in once, in order
pub gathers-each-value-once : {A : Type 0} (G : Gather A) → ((a : A) (v : ℕ) → G.by_first a v ≡ G.by_next a v)
    → (mode : Mode) (n : ℕ) (a : A) (vs : List ℕ) → gather_from G mode n a vs ≡ foldl G.by_next a vs
gathers-each-value-once = gather-folds

-- ---- "On any accepted stream, even one this writer would not write, reopening at k and writing reads back as the first k values and then the newly
-- kept ones": `Resumed` names the state, that it may be used, where it stands, what it gathered, and the reading after any write

pub any-stream-resumes : {A : Type 0} (rule : ℕ → ℕ → ℕ) (S : Stream A) → Good S.format → Keeps S.format.width rule → (l : ℕ) → l < 2 ^ S.format.width
    → (n k used : ℕ) (buf : List ℕ) → k ≤ n → n ≤ most_values → used ≤ length buf → (vs : List ℕ) (t : State A) (r : List Bool)
    → read_all S n (fresh S l) (bits_of (take used buf)) ≡ done vs t r → Resumed rule S l n k used buf vs
any-stream-resumes = any-resumed

-- "The whole stream is checked first": what reading refuses, reopening refuses, by the same number, value and place and at any k
pub reopening-refuses-what-reading-refuses : {A : Type 0} (S : Stream A) (n k : ℕ) (s : State A) (bits : List Bool) (f : StreamRefusal)
    → read_all S n s bits ≡ stopped f → reopen S n k s bits ≡ unopened f
reopening-refuses-what-reading-refuses = refused-reopen

-- "lent memory is untouched"
pub a-refused-reopening-leaves-the-buffer : {A : Type 0} (S : Stream A) (n k : ℕ) (s : State A) (bits : List Bool) (f : StreamRefusal)
    → read_all S n s bits ≡ stopped f → (buf : List ℕ) → buffer_after (reopen S n k s bits) buf ≡ buf
a-refused-reopening-leaves-the-buffer {A} S n k s bits f h buf = ap (λ (q : Reopened A). buffer_after q buf) (refused-reopen S n k s bits f h)

-- ---- what the calls do to lent bytes

-- "An accepted write of one value or more keeps every bit before the place, and zeroes the rest of its last byte; later bytes stay."
pub a-write-changes-only-its-bytes : (buf : List ℕ) (p : ℕ) (new : List Bool) → Below 8 buf → p + length new ≤ 8 * length buf → 0 < length new
    → Rewritten buf (laid_in buf p new) p new
a-write-changes-only-its-bytes buf p new small room some =
    record {
      long = length-laid_in buf p new room;
      before = laid_in-before buf p new room p (omega arith);
      filled = ap (take (up (p + length new))) (bits-laid_in buf p new room) ∙ laid-used (bits_of buf) p new (omega (arith, length-bits_of buf)) some;
      behind = laid_in-after buf p new room (whole_bytes (p + length new)) (omega arith) (omega arith) small;
    }

-- "An empty write changes nothing."
pub an-empty-write-changes-nothing : (buf : List ℕ) (p : ℕ) → Below 8 buf → laid_in buf p [] ≡ buf
an-empty-write-changes-nothing = laid_in-nothing

-- Reopening "zeroes the bits after the bit place of k in a byte that this cuts, and nothing else."
pub reopening-changes-only-the-cut-bits : (buf : List ℕ) (p : ℕ) → Below 8 buf → p ≤ 8 * length buf → Rewritten buf (cut_in buf p) p []
reopening-changes-only-the-cut-bits buf p small room =
    record {
      long = length-cut_in buf p room;
      before = cut_in-before buf p room p (omega arith);
      filled =
          ap₂ (λ (n : ℕ) (z : List Bool). take (up n) z) (add-zero p) (bits-cut_in buf p room) ∙ cut-used (bits_of buf) p (omega (arith, length-bits_of buf))
          ∙ ap padded (sym (append-nil (take p (bits_of buf))));
      behind = cut_in-after buf p room (whole_bytes (p + 0)) (omega arith) (omega arith) small;
    }

-- ---- how large a stream can get (document 02, W9)

-- n values take at most so many bits, by any rule of what is kept and from any state; a fresh one is such a state, whose first value is raw in the mode with one
pub values-take-no-more : {A : Type 0} (S : Stream A) → Good S.format → 1 < S.format.width → (rule : ℕ → ℕ → ℕ) (s : State A) (xs : List ℕ)
    → length (written rule S s xs) ≤ most_bits S.format (is_raw S s) (length xs)
values-take-no-more = written-at-most

-- "The reason: a 45-bit code sets a window that no later code replaces." Behind it a code takes at most 33 bits.
pub a-45-bit-code-sets-all-bits : (win : Window) (x : ℕ) → 45 ≤ length (code_of macaque win x)
    → (window_by macaque win x (kind_of macaque win x)).lead + (window_by macaque win x (kind_of macaque win x)).trail ≡ 0
a-45-bit-code-sets-all-bits = a-longest-code-sets-all-bits macaque macaque-good (omega arith)

pub no-later-code-replaces-it : (win : Window) (x : ℕ) → win.lead + win.trail ≡ 0
    → (window_by macaque win x (kind_of macaque win x) ≡ win) × (length (code_of macaque win x) ≤ 33)
no-later-code-replaces-it = all-bits-stay macaque macaque-good (omega arith) (omega arith)

-- "For lossless streams show for each n a list that reaches the bound": of MacaqueV, and of the stream of the Gorilla paper
pub some-values-take-as-many : {A : Type 0} (mode : Mode) (G : Gather A) (l : ℕ) → l < 2 ^ 32 → (n : ℕ) → Largest (macaque_of mode G) l n
some-values-take-as-many mode G = largest (macaque_of mode G) macaque-patterns

pub some-doubles-take-as-many : {A : Type 0} (mode : Mode) (G : Gather A) (l : ℕ) → l < 2 ^ 64 → (n : ℕ) → Largest (record { format = gorilla; mode = mode; gather = G }) l n
some-doubles-take-as-many mode G = largest (record { format = gorilla; mode = mode; gather = G }) gorilla-patterns

-- the numbers of MacaqueV: 0 for no value; "44 × n + 1" without a first value; with one "32 bits for n = 1 and at most 32 + 44 × (n − 1) + 1 above that"
pub no-values-no-bits : (raw : Bool) → most_bits macaque raw 0 ≡ 0
no-values-no-bits true = refl
no-values-no-bits false = refl

pub without-a-first-value : (n : ℕ) → 1 ≤ n → most_bits macaque false n ≡ 44 * n + 1
without-a-first-value zero p = absurd (omega arith)
without-a-first-value (suc n) p = omega arith

pub a-first-value-alone : most_bits macaque true 1 ≡ 32
a-first-value-alone = refl

pub with-a-first-value : (n : ℕ) → 2 ≤ n → most_bits macaque true n ≡ 32 + 44 * (n - 1) + 1
with-a-first-value zero p = absurd (omega arith)
with-a-first-value (suc zero) p = absurd (omega arith)
with-a-first-value (suc (suc n)) p = omega arith

-- ---- the marked cases a to l, as one table, and the formats

pub the-marked-cases : AllRight cases
the-marked-cases = marked

pub macaque-is-good : Good macaque
macaque-is-good = macaque-good

pub gorilla-is-good : Good gorilla
gorilla-is-good = gorilla-good
