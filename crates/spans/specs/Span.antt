-- The span of a list of pixels: from its lowest to its highest byte.
-- Assumes nothing.
use Rattle.std.specs.Prelude.{Bool, true, ◌&&◌, List, [], ◌∷◌, ◌++◌, ℕ, zero, suc, ◌+◌, min, max, ltb}
use Rattle.surface.specs.declared.Surface.{Surface}
use Rattle.spans.specs.declared.Span.{Span}
use Rattle.surface.specs.Place.{byte_at, first_byte, byte_count, on_surface}
use Rattle.surface.specs.Pixels.{Px}

-- every pixel of the list is on the surface
unfoldable pub all_on : Surface → ℕ → List Px → Bool
all_on s len [] = true
all_on s len (p ∷ ps) = on_surface s len p.x p.y && all_on s len ps

-- the addresses of n bytes of row y, and of all bytes of a list of pixels
unfoldable pub addresses_of : Surface → ℕ → ℕ → ℕ → List ℕ
addresses_of s column zero y = []
addresses_of s column (suc n) y = byte_at s column y ∷ addresses_of s (suc column) n y

unfoldable pub addresses : Surface → List Px → List ℕ
addresses s [] = []
addresses s (p ∷ ps) = addresses_of s (first_byte s p.x) (byte_count s) p.y ++ addresses s ps

-- from the lowest address up to, and without, the one past the highest; both 0 where there is none
abbrev pub span : ℕ → ℕ → Span
span low past = record { low = low; past = past }

unfoldable pub lowest : ℕ → List ℕ → ℕ
lowest a [] = a
lowest a (b ∷ bs) = min a (lowest b bs)

unfoldable pub highest : ℕ → List ℕ → ℕ
highest a [] = a
highest a (b ∷ bs) = max a (highest b bs)

unfoldable pub spanned : List ℕ → Span
spanned [] = span 0 0
spanned (a ∷ more) = span (lowest a more) (highest a more + 1)

unfoldable pub span_of : Surface → List Px → Span
span_of s ps = spanned (addresses s ps)

-- two spans have an address in common; an empty one meets nothing
abbrev pub meet : Span → Span → Bool
meet a b = ltb a.low b.past && ltb b.low a.past
