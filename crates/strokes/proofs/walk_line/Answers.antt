-- `strokes::walk_line` meets its contract: at each number of bytes.
-- Assumes nothing.
use Rattle.std.proofs.Common.{arith}
use Rattle.strokes.proofs.walk_line.Goals as goal

pub stipple_points-requires-in_default : goal.stipple_points-requires-in_default
stipple_points-requires-in_default c = (c.requires, omega (arith, c.requires.surface.some, c.requires.surface.small.bytes))
