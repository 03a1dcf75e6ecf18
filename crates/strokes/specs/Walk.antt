-- A line that lies inside the clip and whose points get their source, walked by address: each step adds to the address of the point before, and to a
-- remainder that says when it goes along the minor axis too. The stipple's word is kept as its four numbers.
-- Assumes nothing.
use Rattle.std.specs.Prelude.{◌≡◌, ℕ, ◌+◌, ◌-◌, ◌*◌, ◌%◌, ◌^◌, Bool, cond, not, ◌&&◌, List, [], ◌∷◌, map, ◌==◌, nat_le, nat_lt}
use Rattle.std.proofs.Math.Option.{some}
use Rattle.surface.specs.declared.Surface.{Surface}
use Rattle.surface.specs.Place.{byte_of}
use Rattle.surface.specs.Pixels.{origin}
use Rattle.paint.specs.declared.Clip.{Clip}
use Rattle.ink.specs.declared.Ink.{Ink}
use Rattle.paint.specs.Paint.{Touch, touch}
use Rattle.paint.specs.Mix.{sourced, bit_source, direct}
use Rattle.paint.specs.Clip.{in_clip, pixel_at}
use Rattle.line.specs.declared.Point.{Point}
use Rattle.line.specs.declared.Line.{Line}
use Rattle.line.specs.declared.Pen.{Pen}
use Rattle.strokes.specs.declared.Walk.{Walk}
use Rattle.strokes.specs.declared.Steps.{Steps}
use Rattle.line.specs.Line.{x_major, longer, shorter, point_at}
use Rattle.line.specs.Tread.{left_over}
use Rattle.line.specs.Stipple.{repeat_count, size, position, bit_number, style_of, stipple_bit, after}

-- ---- the steps

-- u, or what takes u off in 64 bits
unfoldable pub shift : Bool → ℕ → ℕ
shift up u = cond up u ((2 ^ 64 - u) % 2 ^ 64)

-- where pixels are so many bytes apart, and rows so many
abbrev pub across : ℕ → Line → ℕ
across bytes l = shift (nat_le l.x0 l.x1) bytes

abbrev pub down : ℕ → Line → ℕ
down stride l = shift (nat_le l.y0 l.y1) stride

abbrev pub steps : ℕ → ℕ → ℕ → ℕ → Steps
steps along both limit more = record { along = along; both = both; limit = limit; more = more }

unfoldable pub steps_of : ℕ → ℕ → Line → Steps
steps_of bytes stride l =
    steps (cond (x_major l) (across bytes l) (down stride l)) ((across bytes l + down stride l) % 2 ^ 64)
    (2 * longer l - 2 * shorter l) (2 * shorter l)

abbrev pub walk : ℕ → ℕ → Walk
walk at rest = record { at = at; rest = rest }

unfoldable pub walked_on : Steps → Walk → Walk
walked_on t w =
    cond (nat_lt w.rest t.limit) (walk ((w.at + t.along) % 2 ^ 64) (w.rest + t.more))
    (walk ((w.at + t.both) % 2 ^ 64) (w.rest - t.limit))

-- the walk is at point i: the address of its first byte, and what the division that gives its steps along the minor axis leaves
pub record AtPoint (s : Surface) (l : Line) (i : ℕ) (w : Walk) : Type 0 where
  pub at : w.at ≡ byte_of s ((point_at l i).x - origin) ((point_at l i).y - origin) 0
  pub rest : w.rest ≡ left_over (longer l) (shorter l) i

-- ---- what is put there

-- each point is given its source
unfoldable pub walk_touches : Ink → Pen → ℕ → List Point → List Touch
walk_touches ink pen style [] = []
walk_touches ink pen style (p ∷ ps) =
    touch (pixel_at p.x p.y) (λ m. sourced (bit_source ink (stipple_bit pen style))) ∷ walk_touches ink pen (after pen style) ps

-- each point is given v
abbrev pub plain_touches : ℕ → List Point → List Touch
plain_touches v ps = map (λ p. touch (pixel_at p.x p.y) (λ m. some v)) ps

-- each point inside the clip is
unfoldable pub clip_touches : ℕ → Clip → List Point → List Touch
clip_touches v c [] = []
clip_touches v c (p ∷ ps) = cond (in_clip c p.x p.y) (touch (pixel_at p.x p.y) (λ m. some v) ∷ clip_touches v c ps) (clip_touches v c ps)

-- ---- the stipple's four numbers

-- a word that has no other bits
abbrev pub whole : ℕ → Bool
whole style = style_of (repeat_count style) (size style) (position style) (bit_number style) == style

-- ---- what functions give

-- both ends are inside the clip, each point gets its source, and the target is in rows
abbrev pub walks : Ink → Clip → Line → ℕ → Bool
walks ink c l style = (((direct ink && whole style) && in_clip c l.x0 l.y0) && in_clip c l.x1 l.y1) && not ink.target.tiled
