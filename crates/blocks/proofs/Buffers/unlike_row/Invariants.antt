-- `blocks::Buffers::unlike_row` meets its contract: those of the first i pixels are counted.
-- Assumes nothing.
use Rattle.blocks.proofs.Others.{Told}
use Rattle.blocks.proofs.Buffers.unlike_row.Given as goal

abbrev pub invariant-loop-i : goal.invariant-loop-i
invariant-loop-i l = Told l.p.to l.p.from l.mem l.p.x l.p.y l.p.sx l.p.sy l.p.w l.i l.r
