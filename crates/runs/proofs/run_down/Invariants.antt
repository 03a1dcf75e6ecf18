-- `runs::run_down` meets its contract: a byte is read before it is overwritten.
-- Assumes nothing.
use Prim.Native.Nat.{◌-◌, ◌≤◌}
use Rattle.runs.specs.Runs.{Shifted}
use Rattle.runs.proofs.run_down.Given as goal

abbrev pub invariant-loop-i : goal.invariant-loop-i
invariant-loop-i l = Shifted l.d l.s l.i l.n l.initial.mem l.mem × (l.i ≤ l.n)

abbrev pub decreases-loop-i : goal.decreases-loop-i
decreases-loop-i l = l.i
