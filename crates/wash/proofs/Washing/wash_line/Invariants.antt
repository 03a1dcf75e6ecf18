-- `wash::Washing::wash_line` meets its contract: the parts so far are changed, and what they changed is counted.
-- Assumes nothing.
use mathlib.Core.Path.{◌≡◌}
use Prim.Native.Nat.{◌%◌, ◌≤◌}
use Rattle.wash.specs.Wash.{RowWashed}
use Rattle.wash.proofs.Washing.wash_line.Given as goal

abbrev pub invariant-loop-i : goal.invariant-loop-i
invariant-loop-i l = RowWashed l.self l.first l.x l.y l.i l.r l.initial.mem l.mem × (l.i ≤ l.w) × (l.i % 8 ≡ 0)
