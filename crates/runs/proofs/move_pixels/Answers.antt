-- `runs::move_pixels` meets its contract: the pixels are counted, and then their bytes moved.
-- Assumes nothing.
use native.Mathlib.Omega.{arith}
use Rattle.runs.proofs.Alike.{pixels-run}
use Rattle.runs.proofs.move_pixels.Goals as goal

pub run_down-requires : goal.run_down-requires
run_down-requires c = let p = c.requires in (pixels-run p.0.0 p.0.1, p.1.1 c.if-back.true)

pub run_up-requires : goal.run_up-requires
run_up-requires c = let p = c.requires in (pixels-run p.0.0 p.0.1, p.1.0 c.if-back.false)
