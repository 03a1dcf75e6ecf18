-- What functions of this crate ask for. No promise rests on it.
-- Assumes nothing.
use Rattle.std.specs.Prelude.{ℕ, ◌+◌, ◌-◌, ◌^◌, ◌<◌, ◌≤◌}
use Rattle.surface.specs.declared.Surface.{Surface}
use Rattle.surface.specs.Place.{row_pixels}
use Rattle.surface.specs.Asked.{Small}
use Rattle.surface.specs.Pixels.{origin}
use Rattle.cuts.specs.declared.Cut.{Cut}
use Rattle.scale.specs.declared.Scale.{Scale}
use Rattle.scale.specs.declared.Stretch.{Stretch}
use Rattle.scale.specs.Asked.{OnScale}

-- the target's rectangle and the source's, which is that of cut b, are in the rows of their surfaces, where there are pixels to paint
pub record InRows (t s : Surface) (c b : Cut) : Type 0 where
  pub target : Small t
  pub source : Small s
  pub columns : 0 < c.w → 0 < c.h → (c.x + (c.w - 1) < row_pixels t) × (b.sx - origin + (b.w - 1) < row_pixels s)
  pub left : 0 < c.w → 0 < c.h → origin ≤ b.sx
  pub top : 0 < c.w → 0 < c.h → origin ≤ b.sy

-- there are n target places from `at` on, on one axis of a stretch
pub record Reaches (s : Scale) (at n : ℕ) : Type 0 where
  pub some : 0 < n
  pub small : at + n ≤ 2 ^ 13
  pub first : OnScale s (origin + at)
  pub past : OnScale s (origin + (at + n))

-- the pixels of a cut are places of the stretch's target
pub record OnScales (t : Stretch) (c : Cut) : Type 0 where
  pub target : Small t.ink.target
  pub source : Small t.from
  pub columns : 0 < c.w → 0 < c.h → Reaches t.columns c.x c.w
  pub rows : 0 < c.w → 0 < c.h → Reaches t.rows c.y c.h
