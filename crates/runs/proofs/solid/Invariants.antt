-- `runs::solid` meets its contract: what remains of the pixels, painted on the memory now, is all of them painted on the memory at the start.
-- Assumes nothing.
use Rattle.runs.proofs.Along.{EvenLeft}
use Rattle.runs.proofs.solid.Given as goal

abbrev pub invariant-loop-i : goal.invariant-loop-i
invariant-loop-i g l = EvenLeft g.row.B l.v l.at l.w l.initial.mem l.i l.mem (g.C.Count.value l.r)
