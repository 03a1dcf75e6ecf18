-- What functions of this crate ask for. No promise rests on it.
-- Assumes nothing.
use Rattle.std.specs.Prelude.{◌≡◌, true, false, ℕ, ◌+◌, ◌^◌, ◌<◌, ◌≤◌}
use Rattle.surface.specs.declared.Surface.{Surface}
use Rattle.surface.specs.Pixels.{rect}
use Rattle.surface.specs.Asked.{Colour, OnColour}
use Rattle.spans.specs.Span.{all_on}
use Rattle.pages.specs.Extent.{band_of}

-- a pixel that is on its surface, in a memory of which every page has a mark
pub record MarkablePixel (s : Surface) (x y : ℕ) : Type 0 where
  pub len : ℕ
  pub limit : len ≤ 2 ^ 24
  pub on : OnColour s len x y

-- a rectangle whose pixels are, near enough to the origin for its numbers to fit
pub record Markable (s : Surface) (x y w h : ℕ) : Type 0 where
  pub colour : Colour s
  pub wide : x + w ≤ 2 ^ 13
  pub high : y + h ≤ 2 ^ 13
  pub len : ℕ
  pub limit : len ≤ 2 ^ 24
  pub on : all_on s len (rect false false x y w h) ≡ true

-- the same, not empty, and in one band
pub record InBand (s : Surface) (x y w h : ℕ) : Type 0 where
  pub markable : Markable s x y w h
  pub some : 0 < w
  pub high : 0 < h
  pub band : band_of s y h ≡ h

-- a rectangle with pixels on a colour surface, of numbers that fit: its pixels need not be on the surface
pub record Sized (s : Surface) (x y w h : ℕ) : Type 0 where
  pub colour : Colour s
  pub wide : x + w ≤ 2 ^ 13
  pub high : y + h ≤ 2 ^ 13
