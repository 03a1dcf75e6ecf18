-- `blocks::unlike_rows` meets its contract: those of the first j rows are counted.
-- Assumes nothing.
use Rattle.blocks.proofs.Others.{ToldDown}
use Rattle.blocks.proofs.unlike_rows.Given as goal

abbrev pub invariant-loop-j : goal.invariant-loop-j
invariant-loop-j l = ToldDown l.to l.from l.mem l.x l.y l.sx l.sy l.w l.j l.r
