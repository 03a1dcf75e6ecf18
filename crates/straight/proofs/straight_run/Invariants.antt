-- `straight::straight_run` meets its contract: each turn gives its pixel what is its own, from either end.
-- Assumes nothing.
use mathlib.Core.Bool.{not}
use lib.Dec.{eqb}
use Rattle.straight.proofs.StraightLaws.{Copying}
use Rattle.straight.proofs.straight_run.Given as goal

abbrev pub invariant-loop-i : goal.invariant-loop-i
invariant-loop-i g l = Copying l.t l.w l.j (not (eqb g.row.BACK 0)) l.initial.mem l.i l.r l.mem
