-- What functions of this crate ask for. No promise rests on it.
-- Assumes nothing.
use Rattle.std.specs.Prelude.{true, [], ◌∷◌, ◌≡◌, ℕ, ◌<◌, ◌≤◌}
use Rattle.paint.specs.Asked.{Room, Bits12}
use Rattle.surface.specs.declared.Surface.{Surface}
use Rattle.surface.specs.Asked.{Colour}
use Rattle.spans.specs.Span.{all_on}
use Rattle.paint.specs.declared.Clip.{Clip}
use Rattle.paint.specs.declared.Tally.{Tally}
use Rattle.line.specs.declared.Point.{Point}
use Rattle.line.specs.declared.Line.{Line}
use Rattle.line.specs.Line.{points}
use Rattle.line.specs.Draw.{covered_points}

-- a position within 13 signed bits
pub record Within (p : ℕ) : Type 0 where
  pub low : 12288 ≤ p
  pub high : p < 20480

pub record Placed (l : Line) : Type 0 where
  pub x0 : Within l.x0
  pub y0 : Within l.y0
  pub x1 : Within l.x1
  pub y1 : Within l.y1

-- a line that can be tested against a surface
pub record Testable (s : Surface) (c : Clip) (l : Line) : Type 0 where
  pub surface : Colour s
  pub clip : Bits12 c
  pub line : Placed l

-- a line that can be drawn, in a memory of len bytes: no covered point is off the surface
pub record Drawable (s : Surface) (len : ℕ) (c : Clip) (l : Line) : Type 0 where
  pub surface : Colour s
  pub clip : Bits12 c
  pub line : Placed l
  pub on : all_on s len (covered_points c (points l)) ≡ true

-- the same of a single point, where n tells of the pixels before it
pub record DrawablePoint (s : Surface) (len : ℕ) (c : Clip) (p : Point) (n : Tally) : Type 0 where
  pub surface : Colour s
  pub clip : Bits12 c
  pub on : all_on s len (covered_points c (p ∷ [])) ≡ true
  pub room : Room n 1
