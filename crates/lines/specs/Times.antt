-- Timestamps: 01, "timestamps from −2^52 to 2^52", "timestamps must increase strictly".
use Rattle.std.specs.Prelude.{Bool, true, ◌&&◌, List, [], ◌∷◌, ℤ, pos, negsuc}
use Rattle.std.specs.Int.Signed.{le_z, lt_z}

-- `negsuc n` is -(n + 1)
unfoldable pub time_allowed : ℤ → Bool
time_allowed t = le_z (negsuc 4503599627370495) t && le_z t (pos 4503599627370496)

-- neither is later
abbrev pub same_time : ℤ → ℤ → Bool
same_time a b = le_z a b && le_z b a

-- each time is within the limits and after the one before it, which for the first is `a`
unfoldable pub after : ℤ → List ℤ → Bool
after a [] = true
after a (t ∷ ts) = time_allowed t && (lt_z a t && after t ts)

unfoldable pub in_order : List ℤ → Bool
in_order [] = true
in_order (t ∷ ts) = time_allowed t && after t ts
