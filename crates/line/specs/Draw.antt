-- The pixels that a line covers, what is put there, and when one of them is off the surface.
-- Assumes nothing.
use Rattle.std.specs.Prelude.{Bool, cond, not, List, [], ◌∷◌, ℕ}
use Rattle.surface.specs.declared.Surface.{Surface}
use Rattle.surface.specs.Pixels.{Px}
use Rattle.spans.specs.Span.{all_on}
use Rattle.paint.specs.declared.Clip.{Clip}
use Rattle.ink.specs.declared.Ink.{Ink}
use Rattle.paint.specs.Paint.{Touch}
use Rattle.paint.specs.Mix.{bit_source, placed}
use Rattle.paint.specs.Clip.{in_clip, pixel_at}
use Rattle.line.specs.declared.Point.{Point}
use Rattle.line.specs.declared.Pen.{Pen}
use Rattle.line.specs.Stipple.{stipple_bit, after}

-- the points inside the clip, as pixels
unfoldable pub covered_points : Clip → List Point → List Px
covered_points c [] = []
covered_points c (p ∷ ps) =
    cond (in_clip c p.x p.y) (pixel_at p.x p.y ∷ covered_points c ps) (covered_points c ps)

-- what is put there, from the word `style` of lineStyle on; the word goes on at each point, clipped or not
unfoldable pub line_touches : Ink → List ℕ → Clip → Pen → ℕ → List Point → List Touch
line_touches ink pattern c pen style [] = []
line_touches ink pattern c pen style (p ∷ ps) =
    cond (in_clip c p.x p.y)
    (placed ink pattern (pixel_at p.x p.y) (bit_source ink (stipple_bit pen style)) ∷ line_touches ink pattern c pen (after pen style) ps)
    (line_touches ink pattern c pen (after pen style) ps)

-- a covered point is off the surface, in a memory of len bytes
unfoldable pub line_off : Surface → ℕ → Clip → List Point → Bool
line_off s len c ps = not (all_on s len (covered_points c ps))
