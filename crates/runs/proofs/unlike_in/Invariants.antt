-- `runs::unlike_in` meets its contract: those counted, and those that remain, are all of them.
-- Assumes nothing.
use Rattle.runs.proofs.Alike.{Counted}
use Rattle.runs.proofs.unlike_in.Given as goal

abbrev pub invariant-loop-i : goal.invariant-loop-i
invariant-loop-i g l = Counted l.a l.b g.row.B l.d l.s l.w l.i (g.C.Count.value l.r)
