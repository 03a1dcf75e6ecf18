-- What functions of this crate ask for. No promise rests on it.
-- Assumes nothing.
use Rattle.std.specs.Prelude.{◌≡◌, true, false, ℕ}
use Rattle.surface.specs.declared.Surface.{Surface}
use Rattle.surface.specs.Asked.{Colour}
use Rattle.surface.specs.Pixels.{across, rect}
use Rattle.spans.specs.Span.{all_on}

pub record RowOn (s : Surface) (len x w y : ℕ) : Type 0 where
  pub colour : Colour s
  pub on : all_on s len (across false x w y) ≡ true

pub record RectOn (s : Surface) (len x y w h : ℕ) : Type 0 where
  pub colour : Colour s
  pub on : all_on s len (rect false false x y w h) ≡ true
