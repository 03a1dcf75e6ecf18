-- `runs::keep_row` meets its contract: the pieces so far have come.
-- Assumes nothing.
use Prim.Native.Nat.{◌-◌, ◌≤◌}
use Rattle.runs.specs.Runs.{RowKept}
use Rattle.runs.proofs.keep_row.Given as goal

abbrev pub invariant-loop-i : goal.invariant-loop-i
invariant-loop-i l = RowKept l.s l.mem l.x l.y l.i l.initial.out l.out × (l.i ≤ l.n)

abbrev pub decreases-loop-i : goal.decreases-loop-i
decreases-loop-i l = l.n - l.i
