-- A line inside the clip whose points get what pattern, colorFore and target make, walked by address: one number for the place on the target and for the cell of the pattern.
-- Assumes nothing.
use Rattle.std.specs.Prelude.{ℕ, ◌+◌, ◌-◌, ◌*◌, ◌%◌, ◌^◌, Bool, cond, not, ◌&&◌, List, map}
use Rattle.surface.specs.declared.Surface.{Surface}
use Rattle.surface.specs.Place.{surface, byte_of}
use Rattle.surface.specs.Pixels.{origin}
use Rattle.raster.specs.Masks.{quad_of}
use Rattle.ink.specs.declared.Ink.{Ink}
use Rattle.paint.specs.declared.Clip.{Clip}
use Rattle.paint.specs.Paint.{Touch}
use Rattle.paint.specs.Mix.{bit_source, placed}
use Rattle.paint.specs.Clip.{in_clip, pixel_at}
use Rattle.line.specs.declared.Point.{Point}
use Rattle.line.specs.declared.Line.{Line}
use Rattle.line.specs.declared.Pen.{Pen}
use Rattle.line.specs.Line.{longer, point_count}
use Rattle.strokes.specs.declared.Track.{Track}
use Rattle.strokes.specs.Walk.{steps_of, walk}

-- a column of the pattern in the bits from 32 on, and a row in those from 46 on: the forced row is 0
abbrev pub column_part : ℕ → ℕ
column_part u = u * 2 ^ 32

abbrev pub row_part : Ink → ℕ → ℕ
row_part ink u = cond ink.forced 0 (u * 2 ^ 46)

-- the target and the pattern's grid as one surface: the low 32 bits of a pixel's address there are its address on the target, the others its cell
abbrev pub pair_of : Ink → Surface
pair_of ink =
    surface (ink.target.base + (column_part (ink.pat_x % 8) + row_part ink (ink.pat_y % 8))) (ink.target.stride + row_part ink 1) (ink.target.bytes + column_part 1)

abbrev pub pair_at : Ink → ℕ → ℕ → ℕ
pair_at ink x y = byte_of ink.target x y 0 + column_part (ink.pat_x % 8 + x) + row_part ink (ink.pat_y % 8 + y)

-- the walk at a line's first point, and what its steps add
unfoldable pub track_of : Ink → Line → Track
track_of ink l = record {
  ink = ink;
  line = l;
  quad = quad_of ink.rop0 ink.fore;
  steps = steps_of (pair_of ink).bytes (pair_of ink).stride l;
  walk = walk (pair_at ink (l.x0 - origin) (l.y0 - origin)) (longer l);
  total = point_count l;
}

-- each point is given what pattern, colorFore and target make
abbrev pub mix_touches : Ink → List ℕ → List Point → List Touch
mix_touches ink pattern ps = map (λ p. placed ink pattern (pixel_at p.x p.y) (bit_source ink 1)) ps

-- no target key, a colour pattern, no stipple, both ends inside the clip, and the target in rows
abbrev pub mixes : Ink → Clip → Line → Pen → Bool
mixes ink c l pen =
    ((((not ink.dst_key && not ink.mono) && not pen.stippled) && in_clip c l.x0 l.y0) && in_clip c l.x1 l.y1) && not ink.target.tiled
