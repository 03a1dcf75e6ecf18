-- `blocks::move_band` meets its contract: the columns so far have come.
-- Assumes nothing.
use Prim.Native.Nat.{◌-◌, ◌≤◌}
use Rattle.blocks.specs.Blocks.{Put, origin_byte}
use Rattle.blocks.proofs.move_band.Given as goal

abbrev pub invariant-loop-i : goal.invariant-loop-i
invariant-loop-i l = Put l.b.to (origin_byte l.b l.initial.mem) l.b.x l.b.y l.i l.h l.initial.mem l.mem × (l.i ≤ l.n)

abbrev pub decreases-loop-i : goal.decreases-loop-i
decreases-loop-i l = l.n - l.i
