-- Fills whose pixels depend on the pattern and on what stands there.
-- Assumes nothing.
use Rattle.std.specs.Prelude.{List, map, ℕ}
use Rattle.std.proofs.Math.Option.{Option}
use Rattle.surface.specs.Place.{read_px}
use Rattle.surface.specs.Pixels.{Px}
use Rattle.ink.specs.declared.Ink.{Ink}
use Rattle.paint.specs.Paint.{Touch, touch}
use Rattle.paint.specs.Mix.{fill_source, mixed}
use Rattle.ink.specs.Pattern.{pattern_column, pattern_row, pattern_bit, pattern_value}

-- what pixel p of a fill is given: pattern, colorFore and the pixel as it stands, by the raster operation that the keys choose
unfoldable pub filling : Ink → List ℕ → List ℕ → Px → Option ℕ
filling ink pattern now p =
    mixed ink (pattern_value ink pattern p.x p.y)
    (fill_source ink (pattern_bit pattern (pattern_column ink p.x) (pattern_row ink p.y)))
    (read_px now ink.target p.x p.y)

-- each pixel in its turn
abbrev pub fillings : Ink → List ℕ → List Px → List Touch
fillings ink pattern ps = map (λ p. touch p (λ now. filling ink pattern now p)) ps
