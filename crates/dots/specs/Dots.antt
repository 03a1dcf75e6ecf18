-- The points of a line that are written, as pixels, and a rectangle that holds them.
-- Assumes nothing.
use Rattle.std.specs.Prelude.{cond, not, ◌&&◌, List, [], ◌∷◌, ℕ, ◌+◌, ◌-◌, min, max}
use Rattle.surface.specs.Pixels.{Px, origin}
use Rattle.ink.specs.declared.Ink.{Ink}
use Rattle.paint.specs.declared.Clip.{Clip}
use Rattle.paint.specs.Clip.{in_clip, pixel_at}
use Rattle.paint.specs.Mix.{bit_source}
use Rattle.line.specs.declared.Point.{Point}
use Rattle.line.specs.declared.Line.{Line}
use Rattle.line.specs.declared.Pen.{Pen}
use Rattle.line.specs.Stipple.{stipple_bit, after}
use Rattle.cuts.specs.declared.Cut.{Cut}
use Rattle.cuts.specs.Cut.{cut_low}

-- the points that are written: inside the clip, and not left by the stipple, from the word `style` of lineStyle on; the word goes on at each point, clipped or not
unfoldable pub dotted : Ink → Clip → Pen → ℕ → List Point → List Px
dotted ink c pen style [] = []
dotted ink c pen style (p ∷ ps) =
    cond (in_clip c p.x p.y && not (bit_source ink (stipple_bit pen style)).left)
    (pixel_at p.x p.y ∷ dotted ink c pen (after pen style) ps)
    (dotted ink c pen (after pen style) ps)

-- on one axis: from the lesser of two ends, or the clip's first place, up to, and without, the one after the greater end, or the clip's `most`
abbrev pub box_low : ℕ → ℕ → ℕ → ℕ
box_low least a b = cut_low least (min a b)

abbrev pub box_size : ℕ → ℕ → ℕ → ℕ → ℕ
box_size least most a b = min (max a b + 1) (origin + most) - box_low least a b

-- what the clip leaves of the rectangle whose corners are the line's ends; it has no source
unfoldable pub line_box : Line → Clip → Cut
line_box l c = record {
  x = box_low c.left l.x0 l.x1 - origin;
  y = box_low c.top l.y0 l.y1 - origin;
  w = box_size c.left c.right l.x0 l.x1;
  h = box_size c.top c.bottom l.y0 l.y1;
  sx = 0;
  sy = 0;
}
