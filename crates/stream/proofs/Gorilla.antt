-- The promises at the format `gorilla`, Lossless and with a first value, over anything that a state gathers: all of them are those of any writer, and no
-- law here is of its own but for its numbers. There is no code for it yet. Assumes nothing.
use mathlib.Core.Path.{◌≡◌, refl, ap, ◌∙◌}
use mathlib.Core.Logic.{◌⊎◌, inl, inr}
use mathlib.Core.Bool.{Bool, true, false, cond}
use mathlib.Core.List.{List, [], ◌∷◌, ◌++◌}
use Prim.Native.Nat.{ℕ, zero, suc, ◌+◌, ◌-◌, ◌*◌, ◌≤◌}
use native.Mathlib.Omega.{arith}
use borrow.Author.Tests.{eqb-false}
use lib.Count.{count_leading_zeros, count_trailing_zeros}
use lib.Dec.{eqb}
use lib.ListN.{length, take, drop}
use Rattle.bits.specs.Bits.{Below, field, value, first_bytes, bytes_of, whole_bytes, padded}
use Rattle.models.specs.Answers.{Done, answered, answered_on}
use Rattle.stream.specs.Format.{gorilla, opening, lead_of, trail_of, kind_of, body_of, window_by, bits_for, window_for, Gather, State, fresh, most_values, usable}
use Rattle.stream.specs.Write.{lossless, kept_from, encode, stream_of}
use Rattle.stream.specs.Read.{count_of}
use Rattle.stream.specs.Calls.{gorilla_stream, gorilla_coder, values_in, grid_answer, grid_memory, new_answer, write_answer, write_memory, reopen_answer, reopen_memory}
use Rattle.stream.specs.Made.{MadeBy, state_over, ResumesAsOne, Resumes}
use Rattle.stream.specs.Needs.{longest, GoodCoder}
use Rattle.stream.specs.Size.{most_bits}
use Rattle.stream.proofs.Formats.{Framed, gorilla-good}
use Rattle.stream.proofs.Writing.{kept-lossless, lossless-keeps}
use Rattle.stream.proofs.Rule.{usable-says}
use Rattle.stream.proofs.Calls as calls
use Rattle.stream.proofs.Size as size

-- ---- its numbers

-- a code has at most 77 bits: 2 of its word, 5, 6, and 64
pub at-most-77 : longest gorilla ≡ 77
at-most-77 = refl

-- so the most bits of n values are 64 for n = 1, and 64 + 76 × (n − 1) + 1 above that
pub its-first-value-alone : most_bits gorilla true 1 ≡ 64
its-first-value-alone = refl

pub its-most-bits : (n : ℕ) → 2 ≤ n → most_bits gorilla true n ≡ 64 + 76 * (n - 1) + 1
its-most-bits zero p = absurd (omega arith)
its-most-bits (suc zero) p = absurd (omega arith)
its-most-bits (suc (suc n)) p = omega arith

-- "7 is only leading + meaningful above 64": no count is 0
pub no-count-is-zero : (c : ℕ) → ¬ (count_of gorilla c ≡ 0)
no-count-is-zero c = go (eqb c 0) refl
  where
    go : (t : Bool) → eqb c 0 ≡ t → ¬ (cond t 64 c ≡ 0)
    go true e z = omega arith
    go false e z = eqb-false c 0 e z

-- "A state's window, if not the opening one, has leading at most 31 and leading + trailing at most 63."
pub its-window : {A : Type 0} (bytes : ℕ) (s : State A) → usable gorilla bytes s ≡ true
    → ¬ (s.win ≡ opening) → (s.win.lead ≤ 31) × (s.win.lead + s.win.trail ≤ 63)
its-window bytes s h set = go (usable-says gorilla gorilla-good bytes s h).2.window
  where
    go : {N : Type 0} → (s.win ≡ opening) ⊎ (N × Framed gorilla s.win) → (s.win.lead ≤ 31) × (s.win.lead + s.win.trail ≤ 63)
    go (inl e) = absurd (set e)
    go (inr f) = (omega (arith, f.1.said), omega (arith, f.1.some))

-- ---- its writer

module _ {A : Type 0} (G : Gather A) where
  pub coder-good : GoodCoder (gorilla_coder G)
  coder-good = record { format = gorilla-good; keeps = lossless-keeps 64; holds = λ s. refl; near = omega arith }

  pub a-fresh-writer : (buf : List ℕ) (m : State A) → new_answer (gorilla_coder G) 0 ≡ answered m → MadeBy (gorilla_coder G) 0 [] buf m
  a-fresh-writer = calls.a-fresh-writer (gorilla_coder G) coder-good 0

  module _ {xs buf : List ℕ} {m : State A} (M : MadeBy (gorilla_coder G) 0 xs buf m) where
    pub a-write-goes-on : (ys : List ℕ) (n : State A) → write_answer (gorilla_coder G) (state_over (gorilla_coder G) 0 xs) ys buf ≡ answered_on n
        → MadeBy (gorilla_coder G) 0 (xs ++ ys) (write_memory (gorilla_coder G) (state_over (gorilla_coder G) 0 xs) ys buf) n
    a-write-goes-on = calls.a-write-goes-on (gorilla_coder G) coder-good 0 M

    module _ (bx : Below 64 xs) where
      pub a-write-is-accepted : (ys : List ℕ) → length xs + length ys ≤ most_values → (state_over (gorilla_coder G) 0 (xs ++ ys)).place ≤ 8 * length buf
          → write_answer (gorilla_coder G) (state_over (gorilla_coder G) 0 xs) ys buf ≡ answered_on (state_over (gorilla_coder G) 0 (xs ++ ys))
      a-write-is-accepted = calls.a-write-is-accepted (gorilla_coder G) coder-good 0 M bx (omega arith) tt

      -- with room for the most bits that n values take, what is left of n is accepted
      pub a-write-has-room : (n : ℕ) → n ≤ most_values → whole_bytes (most_bits gorilla true n) ≤ length buf → (ys : List ℕ) → length xs + length ys ≤ n
          → write_answer (gorilla_coder G) (state_over (gorilla_coder G) 0 xs) ys buf ≡ answered_on (state_over (gorilla_coder G) 0 (xs ++ ys))
      a-write-has-room = size.a-write-has-room (gorilla_coder G) coder-good (omega arith) 0 M bx (omega arith) tt

      module _ (few : length xs ≤ most_values) where
        pub reopening-goes-back : (k : ℕ) → k ≤ length xs
            → (reopen_answer (gorilla_coder G) 0 buf (whole_bytes m.place) (length xs) k ≡ answered (state_over (gorilla_coder G) 0 (take k xs)))
            × MadeBy (gorilla_coder G) 0 (take k xs) (reopen_memory (gorilla_coder G) 0 buf (whole_bytes m.place) (length xs) k) (state_over (gorilla_coder G) 0 (take k xs))
        reopening-goes-back = calls.reopening-goes-back (gorilla_coder G) coder-good 0 M bx (omega arith) tt few

        pub resumed-as-one-run : (k : ℕ) → k ≤ length xs → (ys : List ℕ) → k + length ys ≤ most_values
            → (state_over (gorilla_coder G) 0 (take k xs ++ ys)).place ≤ 8 * length buf → ResumesAsOne (gorilla_coder G) 0 xs buf (whole_bytes m.place) k ys
        resumed-as-one-run = calls.resumed-as-one-run (gorilla_coder G) coder-good 0 M bx (omega arith) tt few

        -- the bytes in use read back as the inputs
        pub grid-reads-back : (out : List ℕ) → length xs ≤ length out
            → (grid_answer (gorilla_stream G) 0 (take (whole_bytes m.place) buf) (length xs) (length out) ≡ answered tt)
            × (grid_memory (gorilla_stream G) 0 (take (whole_bytes m.place) buf) (length xs) out ≡ xs ++ drop (length xs) out)
        grid-reads-back out long =
            let r = calls.grid-reads-back (gorilla_coder G) coder-good 0 M bx (omega arith) few out long in
            (r.0, r.1 ∙ ap (λ (vs : List ℕ). vs ++ drop (length xs) out) (kept-lossless (gorilla_stream G) (fresh (gorilla_stream G) 0) xs))

  pub any-stream-resumes : (n k used : ℕ) (buf vs : List ℕ) → n ≤ most_values → k ≤ n → used ≤ length buf
      → values_in (gorilla_stream G) 0 (take used buf) n ≡ answered vs → Resumes (gorilla_coder G) 0 n k used buf vs
  any-stream-resumes n k used buf vs = calls.any-stream-resumes (gorilla_coder G) coder-good 0 n k used buf vs tt (omega arith)

-- ---- "0 stands for 64": after 0, a value whose first and last bits are set has all 64 bits in its window

abbrev nothing : Gather Done
nothing = record { none = tt; by_first = λ a v. a; by_next = λ a v. a }

pub a-count-of-64 : stream_of lossless (gorilla_stream nothing) 0 (0 ∷ 0x8000_0000_0000_0001 ∷ [])
    ≡ 0 ∷ 0 ∷ 0 ∷ 0 ∷ 0 ∷ 0 ∷ 0 ∷ 0 ∷ 0xC0 ∷ 0x04 ∷ 0 ∷ 0 ∷ 0 ∷ 0 ∷ 0 ∷ 0 ∷ 0 ∷ 0x08 ∷ []
unfolding kept_from first_bytes bytes_of field value padded lead_of trail_of count_leading_zeros count_trailing_zeros kind_of body_of window_by bits_for window_for encode
a-count-of-64 = refl
