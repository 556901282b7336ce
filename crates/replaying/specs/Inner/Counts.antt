-- What a load says of its count. Assumes nothing.
use Rattle.std.specs.Prelude.{ℕ, ◌≤◌, ◌≡◌, List, length, take}

-- n counts places at the start of xs. The second part follows from the first; both are stated so that `&mut a[..n]` finds them, as `io`'s own counts are.
abbrev pub Counts : {A : Type 0} → ℕ → List A → Type 0
Counts n xs = (n ≤ length xs) × (n ≡ length (take n xs))
