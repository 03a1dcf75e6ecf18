-- `wash::Washing::wash_row` meets its contract: the pieces so far are changed.
-- Assumes nothing.
use Prim.Native.Nat.{◌-◌, ◌≤◌}
use Rattle.blocks.specs.Blocks.{Put}
use Rattle.wash.specs.Wash.{by_row}
use Rattle.wash.proofs.Washing.wash_row.Given as goal

abbrev pub invariant-loop-i : goal.invariant-loop-i
invariant-loop-i l = Put l.self.s (by_row l.self l.first l.x l.initial.mem) l.x l.y l.i 1 l.initial.mem l.mem × (l.i ≤ l.n)

abbrev pub decreases-loop-i : goal.decreases-loop-i
decreases-loop-i l = l.n - l.i
