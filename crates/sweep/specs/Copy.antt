-- Rectangles of pixels, filled or copied from a source surface.
-- Assumes nothing.
use Rattle.std.specs.Prelude.{cond, List, map, ℕ, ◌+◌, ◌-◌, eqb}
use Rattle.std.proofs.Math.Option.{Option}
use Rattle.surface.specs.Place.{read_px, mono_bit}
use Rattle.surface.specs.Pixels.{Px, px}
use Rattle.surface.specs.declared.Surface.{Surface}
use Rattle.ink.specs.declared.Ink.{Ink}
use Rattle.paint.specs.declared.Source.{Source}
use Rattle.sweep.specs.declared.Task.{Task}
use Rattle.paint.specs.Paint.{Touch, touch}
use Rattle.paint.specs.Mix.{colour_source, bit_source, fill_source, mixed}
use Rattle.ink.specs.Pattern.{pattern_column, pattern_row, pattern_bit, pattern_value}

-- the source pixel of a target pixel
unfoldable pub source_place : Task → Px → Px
source_place t p = px (t.sx + (p.x - t.x)) (t.sy + (p.y - t.y))

-- the source that pixel q of a surface makes, read in the memory m: a mono bit or a colour pixel
abbrev pub source_from : Ink → Surface → List ℕ → Px → Source
source_from ink from m q = cond (eqb from.bytes 0) (bit_source ink (mono_bit m from q.x q.y)) (colour_source ink from.bytes (read_px m from q.x q.y))

-- a pixel's source: that of its source pixel, or the fill's, for which `bit` is the pattern's
unfoldable pub source_by : Task → ℕ → List ℕ → Px → Source
source_by t bit m p = cond t.copies (source_from t.ink t.from m (source_place t p)) (fill_source t.ink bit)

-- what pixel p is given, its source read in the memory m, and the pixel itself in the memory now
unfoldable pub giving : Task → List ℕ → List ℕ → List ℕ → Px → Option ℕ
giving t pattern m now p =
    mixed t.ink (pattern_value t.ink pattern p.x p.y)
    (source_by t (pattern_bit pattern (pattern_column t.ink p.x) (pattern_row t.ink p.y)) m p)
    (read_px now t.ink.target p.x p.y)

-- each pixel from the source as it is when its turn comes
abbrev pub in_turn : Task → List ℕ → List Px → List Touch
in_turn t pattern ps = map (λ p. touch p (λ now. giving t pattern now now p)) ps

-- each pixel from the source as it was before the command, in the memory m: what no command does, and some copies are compared with
abbrev pub as_before : Task → List ℕ → List ℕ → List Px → List Touch
as_before t pattern m ps = map (λ p. touch p (λ now. giving t pattern m now p)) ps
