-- What functions of this crate ask for. No promise rests on it.
-- Assumes nothing.
use Rattle.std.specs.Prelude.{ℕ, ◌+◌, ◌-◌, ◌<◌}
use Rattle.surface.specs.declared.Surface.{Surface}
use Rattle.surface.specs.Place.{row_pixels}
use Rattle.surface.specs.Asked.{Small}

-- the last column of a rectangle is one of the row's
pub record InRow (s : Surface) (x w : ℕ) : Type 0 where
  pub small : Small s
  pub column : 0 < w → x + (w - 1) < row_pixels s
