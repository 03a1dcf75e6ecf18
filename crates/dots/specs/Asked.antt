-- What functions of this crate ask for. No promise rests on it.
-- Assumes nothing.
use Rattle.std.specs.Prelude.{◌≡◌, true, [], ◌∷◌, ℕ, ◌^◌, ◌<◌, ◌≤◌}
use Rattle.surface.specs.Asked.{Colour}
use Rattle.spans.specs.Span.{all_on}
use Rattle.ink.specs.declared.Ink.{Ink}
use Rattle.paint.specs.declared.Clip.{Clip}
use Rattle.paint.specs.Asked.{Bits12}
use Rattle.line.specs.declared.Point.{Point}
use Rattle.line.specs.declared.Line.{Line}
use Rattle.line.specs.Draw.{covered_points}
use Rattle.line.specs.Asked.{Within, Drawable}

-- a line that can be drawn, in a memory of which every page has a mark
pub record Dottable (ink : Ink) (c : Clip) (l : Line) : Type 0 where
  pub len : ℕ
  pub limit : len ≤ 2 ^ 24
  pub drawable : Drawable ink.target len c l

-- the same of a single point
pub record DottablePoint (ink : Ink) (c : Clip) (p : Point) : Type 0 where
  pub len : ℕ
  pub limit : len ≤ 2 ^ 24
  pub surface : Colour ink.target
  pub clip : Bits12 c
  pub on : all_on ink.target len (covered_points c (p ∷ [])) ≡ true

-- on one axis: a clip's first place, and the ends of a line
pub record Ends (least a b : ℕ) : Type 0 where
  pub least12 : least < 2 ^ 12
  pub first : Within a
  pub last : Within b
