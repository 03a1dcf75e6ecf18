-- `rooms::work` meets its contract: by the stride.
-- Assumes nothing.
use native.Mathlib.Omega.{arith}
use Rattle.rooms.proofs.RoomLaws.{pixels-small}
use Rattle.rooms.proofs.work.Goals as goal

pub overflow_cast-result : goal.overflow_cast-result
overflow_cast-result c = omega (arith, c.row_pixels.ensures, pixels-small c.args.s c.requires.0)
