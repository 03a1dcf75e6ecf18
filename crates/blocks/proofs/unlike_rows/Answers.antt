-- `blocks::unlike_rows` meets its contract: those of the first j rows are counted.
-- Assumes nothing.
use native.Mathlib.Omega.{arith}
use Rattle.blocks.proofs.Others.{down-none, down-row, down-few}
use Rattle.blocks.proofs.unlike_rows.Goals as goal

pub loop-j-init : goal.loop-j-init
loop-j-init c = down-none

pub overflow_add-r : goal.overflow_add-r
overflow_add-r c = omega (arith, down-few (down-row c.loop-j.invariant c.unlike_row-r.ensures) c.requires.wide (omega (arith, c.requires.high)))

pub loop-j-preserved : goal.loop-j-preserved
loop-j-preserved c = down-row c.loop-j.invariant c.unlike_row-r.ensures
