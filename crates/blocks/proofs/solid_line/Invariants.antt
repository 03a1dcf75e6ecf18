-- `blocks::solid_line` meets its contract: what remains of the row, painted on the memory now, is the row painted on the memory at the start.
-- Assumes nothing.
use Rattle.blocks.proofs.EvenRows.{LineTo}
use Rattle.blocks.proofs.solid_line.Given as goal

abbrev pub invariant-loop-x : goal.invariant-loop-x
invariant-loop-x l = LineTo l.s l.v l.x0 l.w l.y l.initial.mem l.x l.mem l.r
