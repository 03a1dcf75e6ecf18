-- `blocks::move_blocks` meets its contract: the rows so far have come.
-- Assumes nothing.
use Prim.Native.Nat.{◌-◌, ◌≤◌}
use Rattle.blocks.specs.Blocks.{Put, origin_byte}
use Rattle.blocks.proofs.move_blocks.Given as goal

abbrev pub invariant-loop-j : goal.invariant-loop-j
invariant-loop-j l = Put l.b.to (origin_byte l.b l.initial.mem) l.b.x l.b.y l.n l.j l.initial.mem l.mem × (l.j ≤ l.h)

abbrev pub decreases-loop-j : goal.decreases-loop-j
decreases-loop-j l = l.h - l.j
