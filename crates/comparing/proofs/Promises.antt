-- The promises of the calls together: start reading here. What a caller prints by them (`printed`) is the comparison of document 02 (`compare_text`), and
-- what a reader would ask of that: which indices are listed, in which order, how many, and what two equal files and two swapped files give. Files
-- are lists of bytes, as a program holds them. Assumes nothing.
use mathlib.Core.Path.{◌≡◌, refl, sym, ap, ap₂, ◌∙◌, subst}
use mathlib.Core.Logic.{◌↔◌}
use mathlib.Core.Bool.{Bool, true, false, cond, ◌||◌}
use mathlib.Core.List.{List, [], ◌∷◌, ◌++◌}
use Prim.Native.Nat.{ℕ, ◌+◌, ◌^◌, ◌≤◌, ◌<◌, max}
use native.Mathlib.Nat.{zero-add}
use native.Mathlib.Omega.{arith}
use borrow.Author.Tests.{ltb-true, ltb-false, lt-ltb, le-ltb, leb-true, leb-false}
use Rattle.std.specs.Prelude.{Some, None}
use lib.Dec.{eqb, ltb, leb}
use lib.ListN.{length, get_or, length-take, length-drop, get_or-eq_default}
use lib.Seq.{take_all, get_or-take}
use Rattle.bits.specs.Bits.{bits_of, field, value, starts, Below}
use Rattle.models.specs.Answers.{Said, Done, answered, refused, SaidOn, answered_on, refused_on, judge, fault, fault_in, NoneHolds}
use Rattle.models.specs.declared.Fault.{Fault}
use Rattle.models.specs.Limits.{most_values}
use Rattle.models.proofs.Judged.{not-answered, same_answer, answered-only}
use Rattle.models.proofs.Tests.{neither, or_right}
use Rattle.stream.specs.Read.{read_raw, read_word, read_body, read_one, read_n, first_set, leftover, ended}
use Rattle.macaque_v.specs.State.{opening_value}
use Rattle.macaque_v.specs.Read.{values_in}
use Rattle.macaque_v.specs.declared.Opening.TheVariants.{First, On}
use Rattle.reader.specs.Calls.{opened_at, end_answer}
use Rattle.reader.specs.Run.{Run, nexts, if_ended, and_end}
use Rattle.reader.specs.declared.position.Position.{Position}
use Rattle.reader.proofs.Promises.{n-nexts-and-the-end}
use Rattle.listing.specs.Text.{digit_text, digits_of, places_up_to, refused_text}
use Rattle.listing.specs.Listing.{word_at}
use Rattle.listing.proofs.Putting.{text-laid}
use Rattle.comparing.specs.File.{head_length, file_mode, file_opening, file_count, file_stream, most_bytes, file_causes, file_values, as_read}
use Rattle.comparing.specs.Differences.{entry_at, differences_from, differences, Among, PartsAt, Rising, swapped}
use Rattle.comparing.specs.Text.{difference_text, differ_text, side_text}
use Rattle.comparing.specs.Compared.{nothing_differs, lines_text, differences_text, both_text, compare_text}
use Rattle.comparing.specs.Calls.{half_of, begun_by, open_answer, begun_pair, begun_both, judge_answer}
use Rattle.comparing.specs.Printed.{printed_both, printed}
use Rattle.comparing.specs.declared.Side.TheVariants.{Left, Right}
use Rattle.comparing.specs.declared.Half.{Half}
use Rattle.comparing.specs.declared.Difference.{Difference}
use Rattle.comparing.proofs.Laws.{rising, none-of-itself, length-swapped, only-of-the-same, parting-listed, listed-parting, all-turned}
use Rattle.comparing.proofs.Lines.{side-most}
use Rattle.comparing.proofs.Walking.{Gives, Stands, gives-long, walks}

-- ---- the lines that the request itself shows: `3 3F800000 40000000`, `4 - 40000000`, `differ 2`, `left refused 7 2 40`

pub the-lines-of-the-request :
    (difference_text (record { index = 3; left = Some 1065353216; right = Some 1073741824 }) ≡ 51 ∷ 32 ∷ 51 ∷ 70 ∷ 56 ∷ 48 ∷ 48 ∷ 48 ∷ 48 ∷ 48 ∷ 32 ∷ 52 ∷ 48 ∷ 48 ∷ 48 ∷ 48 ∷ 48 ∷ 48 ∷ 48 ∷ 10 ∷ [])
    × (difference_text (record { index = 4; left = None; right = Some 1073741824 }) ≡ 52 ∷ 32 ∷ 45 ∷ 32 ∷ 52 ∷ 48 ∷ 48 ∷ 48 ∷ 48 ∷ 48 ∷ 48 ∷ 48 ∷ 10 ∷ [])
    × (differ_text 2 ≡ 100 ∷ 105 ∷ 102 ∷ 102 ∷ 101 ∷ 114 ∷ 32 ∷ 50 ∷ 10 ∷ [])
    × (side_text Left (fault_in 7 2 40) ≡ 108 ∷ 101 ∷ 102 ∷ 116 ∷ 32 ∷ 114 ∷ 101 ∷ 102 ∷ 117 ∷ 115 ∷ 101 ∷ 100 ∷ 32 ∷ 55 ∷ 32 ∷ 50 ∷ 32 ∷ 52 ∷ 48 ∷ 10 ∷ [])
unfolding difference_text differ_text side_text refused_text digits_of places_up_to digit_text
the-lines-of-the-request = (refl, refl, refl, refl)

-- ---- two files and all that is said of them (docs/FORMAT.md): case b of document 01, with its first value, beside case d, opened on 1.0

pub a-whole-comparison :
    compare_text (0 ∷ 0 ∷ 0 ∷ 0 ∷ 0 ∷ 4 ∷ 0 ∷ 0 ∷ 0 ∷ 63 ∷ 128 ∷ 0 ∷ 0 ∷ 176 ∷ 145 ∷ 254 ∷ 255 ∷ []) (1 ∷ 0 ∷ 0 ∷ 128 ∷ 63 ∷ 2 ∷ 0 ∷ 0 ∷ 0 ∷ 160 ∷ [])
    ≡ 50 ∷ 32 ∷ 52 ∷ 48 ∷ 48 ∷ 48 ∷ 48 ∷ 48 ∷ 48 ∷ 48 ∷ 32 ∷ 45 ∷ 10 ∷ 51 ∷ 32 ∷ 51 ∷ 70 ∷ 56 ∷ 48 ∷ 48 ∷ 48 ∷ 48 ∷ 48 ∷ 32 ∷ 45 ∷ 10 ∷ 100 ∷ 105 ∷ 102 ∷ 102 ∷ 101 ∷ 114 ∷ 32 ∷ 50 ∷ 10 ∷ []
unfolding compare_text file_values judge bits_of field value starts read_raw read_word read_body read_one read_n first_set leftover ended entry_at differences_from difference_text differ_text digits_of places_up_to digit_text
a-whole-comparison = refl

-- ---- a file that is read

module _ (file : List ℕ) (bytes : Below 8 file) (us : List ℕ) (reads : file_values file ≡ answered us) where
  judged : NoneHolds (file_causes file) × (values_in (file_stream file) (file_count file) (file_opening file) ≡ answered us)
  unfolding file_values
  judged = answered-only (file_causes file) (values_in (file_stream file) (file_count file) (file_opening file)) us reads

  few : file_count file ≤ most_values
  few =
      let under = neither (ltb 1 (file_mode file) || ltb most_values (file_count file)) (ltb most_bytes (length (file_stream file))) judged.0.1.0 in
      ltb-false most_values (file_count file) (neither (ltb 1 (file_mode file)) (ltb most_values (file_count file)) under.0).1

  opening-small : opening_value (file_opening file) < 2 ^ 32
  opening-small = go (eqb (file_mode file) 0)
    where
      go : (t : Bool) → opening_value (cond t First (On (word_at file 1))) < 2 ^ 32
      go true = omega arith
      go false = omega (arith, bytes 1, bytes 2, bytes 3, bytes 4)

  abbrev half : Half
  half = half_of (file_count file) (file_opening file)

  gives : Gives (file_stream file) half us
  gives =
      run (nexts (file_stream file) (file_count file) (opened_at (file_opening file))) refl
      (n-nexts-and-the-end (file_stream file) (file_opening file) opening-small (file_count file) few ∙ judged.1)
    where
      right_end : (r : Run) → nexts (file_stream file) (file_count file) (opened_at (file_opening file)) ≡ answered_on r → (a : Said Done) → if_ended r.values a ≡ answered us
          → Gives (file_stream file) half us
      right_end r k (answered u) e =
          record { after = r.after; reads = k ∙ ap (λ (vs : List ℕ). answered_on (record { values = vs; after = r.after })) (same_answer e) }
      right_end r k (refused f) e = absurd (not-answered e)

      run : (q : SaidOn Position Run) → nexts (file_stream file) (file_count file) (opened_at (file_opening file)) ≡ q → and_end (file_stream file) q ≡ answered us
          → Gives (file_stream file) half us
      run (answered_on r) k e = right_end r k (end_answer (file_stream file) r.after) e
      run (refused_on f p) k e = absurd (not-answered e)

  -- it has as many values as its head says
  pub as-many-as-the-count : length us ≡ file_count file
  as-many-as-the-count = gives-long (file_stream file) us (file_count file) (opened_at (file_opening file)) gives.after gives.reads

  long : length us ≤ most_values
  long = omega (arith, as-many-as-the-count, few)

-- ---- the whole text

module _ (left right line : List ℕ) (e : length line ≡ 80) (bytes_left : Below 8 left) (bytes_right : Below 8 right) where
  -- what is printed of two files is their comparison, whatever the array held
  pub the-comparison : printed left right line ≡ compare_text left right
  unfolding printed compare_text judge_answer open_answer
  the-comparison = go (file_values left) refl (file_values right) refl
    where
      go : (p : Said (List ℕ)) → file_values left ≡ p → (q : Said (List ℕ)) → file_values right ≡ q
          → printed_both left right line (begun_both (begun_by (file_count left) (file_opening left) p) (begun_by (file_count right) (file_opening right) q)) ≡ both_text p q
      go (refused f) l q r = text-laid (side_text Left f) line e (side-most Left f)
      go (answered us) l (refused f) r = text-laid (side_text Right f) line e (side-most Right f)
      go (answered us) l (answered vs) r =
          let n : ℕ = max (length us) (length vs) in
          let s : Stands left right us vs (begun_pair (half_of (file_count left) (file_opening left)) (half_of (file_count right) (file_opening right))) 0 =
          record {
            at_left = record { gives = gives left bytes_left us l; most = omega arith; counted = λ h. refl };
            at_right = record { gives = gives right bytes_right vs r; most = omega arith; counted = λ h. refl };
          } in
          let room : n ≤ most_values = omega (arith, long left bytes_left us l, long right bytes_right vs r) in
          walks left right us vs n 0 (most_values + 1) _ line e s (omega arith) (omega arith) (omega arith)
          ∙ ap (λ (k : ℕ). lines_text (differences us vs) ++ differ_text k) (zero-add (length (differences us vs)))

  -- a file that is refused: "the left stream's, else the right's", as the only line
  pub left-refused : (f : Fault) → file_values left ≡ refused f → printed left right line ≡ side_text Left f
  unfolding compare_text
  left-refused f l = the-comparison ∙ ap (λ (p : Said (List ℕ)). both_text p (file_values right)) l

  pub right-refused : (us : List ℕ) (f : Fault) → file_values left ≡ answered us → file_values right ≡ refused f → printed left right line ≡ side_text Right f
  unfolding compare_text
  right-refused us f l r = the-comparison ∙ ap₂ both_text l r

  -- "a file under 9 bytes 5 .. with 0 and 0", whatever its mode: `left refused 5 0 0`
  pub no-whole-head : length left < head_length
      → printed left right line
      ≡ 108 ∷ 101 ∷ 102 ∷ 116 ∷ 32 ∷ 114 ∷ 101 ∷ 102 ∷ 117 ∷ 115 ∷ 101 ∷ 100 ∷ 32 ∷ 53 ∷ 32 ∷ 48 ∷ 32 ∷ 48 ∷ 10 ∷ []
  unfolding compare_text file_values judge side_text refused_text digits_of places_up_to digit_text
  no-whole-head short = the-comparison ∙ rw (lt-ltb (length left) head_length short)

  -- ---- where both are read

  module _ (us vs : List ℕ) (l : file_values left ≡ answered us) (r : file_values right ≡ answered vs) where
    -- a line for each difference of the values, and `differ` with their number
    pub their-differences : printed left right line ≡ differences_text (differences us vs)
    unfolding compare_text
    their-differences = the-comparison ∙ ap₂ both_text l r

    -- "Two streams with different bits and the same values give none."
    pub the-same-values : us ≡ vs → printed left right line ≡ nothing_differs
    unfolding differ_text digits_of places_up_to digit_text
    the-same-values e =
        their-differences
        ∙ ap (λ (ws : List ℕ). differences_text (differences us ws)) (sym e)
        ∙ ap differences_text (none-of-itself us (max (length us) (length us)) 0)

-- ---- two equal files, two files in each other's place

pub equal-files : (file line us : List ℕ) → length line ≡ 80 → Below 8 file → file_values file ≡ answered us → printed file file line ≡ nothing_differs
equal-files file line us e bytes reads = the-same-values file file line e bytes bytes us us reads reads refl

-- swapping the files swaps the columns and nothing else
pub swapped-files : (left right line us vs : List ℕ) → length line ≡ 80 → Below 8 left → Below 8 right → file_values left ≡ answered us → file_values right ≡ answered vs
    → printed right left line ≡ differences_text (swapped (differences us vs))
swapped-files left right line us vs e bl br l r = their-differences right left line e br bl vs us r l ∙ ap differences_text (all-turned us vs)

-- ---- the differences of two lists of values

module _ (us vs : List ℕ) where
  -- the listed indices are exactly those below both counts where the values differ, and those below one count only, each with what both have there
  pub exactly-where-they-part : (d : Difference) → Among d (differences us vs) ↔ PartsAt us vs d
  exactly-where-they-part d = (listed-parting us vs d, parting-listed us vs d)

  -- they rise strictly: so each is listed once
  pub they-rise : Rising (differences us vs)
  they-rise = rising us vs (max (length us) (length vs)) 0

  -- no other values than the same have no difference
  pub none-only-of-the-same : length (differences us vs) ≡ 0 → us ≡ vs
  none-only-of-the-same = only-of-the-same us vs

  -- as many lines whichever is the left one
  pub as-many-swapped : length (differences vs us) ≡ length (differences us vs)
  as-many-swapped = ap length (all-turned us vs) ∙ length-swapped (differences us vs)

-- ---- what is read of a file

-- too many bytes are 3, whatever else is wrong with the head
too_long : (f : List ℕ) → head_length + most_bytes < length f → file_values f ≡ refused (fault 3)
unfolding file_values judge
too_long f h =
    rw (
      le-ltb (length f) head_length (omega arith),
      or_right (ltb 1 (file_mode f) || ltb most_values (file_count f)) (ltb most_bytes (length (file_stream f))) (lt-ltb most_bytes (length (file_stream f)) (omega (arith, length-drop head_length f))),
    )

-- a file of more bytes is refused by those that are read of it, as it would be by all of them
read-enough : (file : List ℕ) → file_values (as_read file) ≡ file_values file
read-enough file = go (leb (length file) (head_length + most_bytes + 1)) refl
  where
    go : (t : Bool) → leb (length file) (head_length + most_bytes + 1) ≡ t → file_values (as_read file) ≡ file_values file
    go true e = ap file_values (take_all (head_length + most_bytes + 1) file (leb-true (length file) (head_length + most_bytes + 1) e))
    go false e =
        let long = leb-false (length file) (head_length + most_bytes + 1) e in
        too_long (as_read file) (omega (arith, length-take (head_length + most_bytes + 1) file)) ∙ sym (too_long file (omega arith))

pub what-is-read-is-enough : (left right : List ℕ) → compare_text (as_read left) (as_read right) ≡ compare_text left right
unfolding compare_text
what-is-read-is-enough left right = ap₂ both_text (read-enough left) (read-enough right)

-- bytes, as many of them as are read
below-read : (file : List ℕ) → Below 8 file → Below 8 (as_read file)
below-read file bytes i = go (ltb i (head_length + most_bytes + 1)) refl
  where
    go : (t : Bool) → ltb i (head_length + most_bytes + 1) ≡ t → get_or (as_read file) i 0 < 2 ^ 8
    go true e = subst (λ (x : ℕ). x < 2 ^ 8) (sym (get_or-take (head_length + most_bytes + 1) file i 0 (ltb-true i (head_length + most_bytes + 1) e))) (bytes i)
    go false e =
        let past : length (as_read file) ≤ i = omega (arith, length-take (head_length + most_bytes + 1) file, ltb-false i (head_length + most_bytes + 1) e) in
        subst (λ (x : ℕ). x < 2 ^ 8) (sym (get_or-eq_default (as_read file) 0 {n = i} past)) (omega arith)

-- so what the program prints of what it reads is the comparison of the whole files
pub the-program-prints-it : (left right line : List ℕ) → length line ≡ 80 → Below 8 left → Below 8 right → printed (as_read left) (as_read right) line ≡ compare_text left right
the-program-prints-it left right line e bl br =
    the-comparison (as_read left) (as_read right) line e (below-read left bl) (below-read right br) ∙ what-is-read-is-enough left right
