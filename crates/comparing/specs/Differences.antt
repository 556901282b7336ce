-- The differences of two lists of values, and what is said of them. Assumes nothing.
use Rattle.std.specs.Prelude.{◌≡◌, ◌⊎◌, Option, Some, None, Bool, true, false, cond, List, [], ◌∷◌, ℕ, zero, suc, ◌≤◌, ◌<◌, max, eqb, length, get_or}
use Rattle.comparing.specs.declared.Difference.{Difference}

-- ---- "each index at which the value bits differ, in rising order, each once, with both values; indices present in one stream only follow"

-- what a list has at an index
unfoldable pub entry_at : List ℕ → ℕ → Option ℕ
entry_at [] i = None
entry_at (v ∷ vs) zero = Some v
entry_at (v ∷ vs) (suc i) = entry_at vs i

-- values of the same bits, or nothing on either side
abbrev pub same_entry : Option ℕ → Option ℕ → Bool
same_entry None None = true
same_entry None (Some v) = false
same_entry (Some u) None = false
same_entry (Some u) (Some v) = eqb u v

-- what two lists have at an index
abbrev pub both_at : List ℕ → List ℕ → ℕ → Difference
both_at us vs i = record { index = i; left = entry_at us i; right = entry_at vs i }

-- an index before later ones, where its entries are not the same
abbrev pub if_differs : Difference → List Difference → List Difference
if_differs d later = cond (same_entry d.left d.right) later (d ∷ later)

-- of n indices from i on
unfoldable pub differences_from : ℕ → ℕ → List ℕ → List ℕ → List Difference
differences_from zero i us vs = []
differences_from (suc n) i us vs = if_differs (both_at us vs i) (differences_from n (suc i) us vs)

-- of all indices that one of the lists has
abbrev pub differences : List ℕ → List ℕ → List Difference
differences us vs = differences_from (max (length us) (length vs)) 0 us vs

-- ---- what is said of a list of differences

-- it has this one
abbrev pub Among : Difference → List Difference → Type 0
Among d [] = ⊥
Among d (e ∷ es) = (d ≡ e) ⊎ Among d es

-- an index at which two lists part, and what each has there: below both counts with other values, or below one count only
pub data PartsAt (us vs : List ℕ) : Difference → Type 0 where
  other_values : (i : ℕ) → i < length us → i < length vs → ¬ (get_or us i 0 ≡ get_or vs i 0)
      → PartsAt us vs (record { index = i; left = Some (get_or us i 0); right = Some (get_or vs i 0) })
  left_only : (i : ℕ) → i < length us → length vs ≤ i → PartsAt us vs (record { index = i; left = Some (get_or us i 0); right = None })
  right_only : (i : ℕ) → length us ≤ i → i < length vs → PartsAt us vs (record { index = i; left = None; right = Some (get_or vs i 0) })

-- their indices are all above i
abbrev pub Above : ℕ → List Difference → Type 0
Above i [] = Unit {0}
Above i (d ∷ ds) = (i < d.index) × Above i ds

-- each index is below all later ones
abbrev pub Rising : List Difference → Type 0
Rising [] = Unit {0}
Rising (d ∷ ds) = Above d.index ds × Rising ds

-- with the sides in each other's place
abbrev pub swapped : List Difference → List Difference
swapped [] = []
swapped (d ∷ ds) = record { index = d.index; left = d.right; right = d.left } ∷ swapped ds
