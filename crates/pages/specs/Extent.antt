-- The pages from a rectangle's first byte to its last, and when its pixels have a byte in each of them. No promise rests on it: it is what functions say, and that
-- the pages which they mark are those of the pixels is proved.
-- Assumes nothing.
use Rattle.std.specs.Prelude.{cond, ◌&&◌, ◌||◌, List, [], ◌∷◌, ℕ, zero, suc, ◌+◌, ◌-◌, ◌*◌, ◌%◌, min, eqb, leb, ltb}
use Rattle.surface.specs.declared.Surface.{Surface}
use Rattle.surface.specs.Place.{byte_at}
use Rattle.pages.specs.Pages.{page_of}
use Rattle.pages.specs.declared.Extent.{Extent}

-- n pages from number k on, as the addresses that they start at
unfoldable pub starts : ℕ → ℕ → List ℕ
starts k zero = []
starts k (suc n) = k * 4096 ∷ starts (k + 1) n

-- of h rows from row y on, how many from the first one lie so close that no page fits between two of them: in a row of tiles, all; in rows, all where the stride is
-- at most a page, else one
unfoldable pub band_of : Surface → ℕ → ℕ → ℕ
band_of s y h = min h (cond s.tiled (32 - y % 32) (cond (leb s.stride 4096) h 1))

-- the pages of the first and of the last byte of w by h pixels
abbrev pub first_page : Surface → ℕ → ℕ → ℕ
first_page s x y = page_of (byte_at s (x * s.bytes) y)

abbrev pub last_page : Surface → ℕ → ℕ → ℕ → ℕ → ℕ
last_page s x y w h = page_of (byte_at s ((x + w) * s.bytes - 1) (y + (h - 1)))

-- `count` of these pixels are written: the pages from the first byte's up to, and without, the one after the last byte's; and whether each of them has a byte of a
-- written pixel for sure: there is only one, or all pixels are written and lie in one band
unfoldable pub extent_of : Surface → ℕ → ℕ → ℕ → ℕ → ℕ → Extent
extent_of s x y w h count =
    let first = first_page s x y in
    let last = last_page s x y w h in
    cond (ltb 0 count && (ltb 0 w && (ltb 0 h && ltb last 4096)))
    (record { first = first; past = last + 1; whole = eqb first last || (eqb count (w * h) && eqb (band_of s y h) h) })
    (record { first = 0; past = cond (eqb count 0) 0 4096; whole = eqb count 0 })
