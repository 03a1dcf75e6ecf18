-- `blocks::solid_blocks` meets its contract: the later rows are counted against the first, and the rows so far have the value's bytes.
-- Assumes nothing.
use Prim.Native.Nat.{◌-◌, ◌*◌, ◌<◌, ◌≤◌}
use Rattle.blocks.specs.Blocks.{Put}
use Rattle.blocks.proofs.Even.{column_byte}
use Rattle.blocks.proofs.EvenRows.{Below}
use Rattle.blocks.proofs.solid_blocks.Given as goal

abbrev pub invariant-loop-j : goal.invariant-loop-j
invariant-loop-j l = Below l.s l.mem l.x0 l.y0 l.w l.h l.initial.changed l.j l.changed

abbrev pub invariant-loop-there : goal.invariant-loop-there
invariant-loop-there l = Put l.fn.s (column_byte l.fn.s l.v) (l.x0 * l.fn.s.bytes) l.y0 (l.w * l.fn.s.bytes) l.there l.initial.mem l.mem × (0 < l.there) × (l.there ≤ l.h)

abbrev pub decreases-loop-there : goal.decreases-loop-there
decreases-loop-there l = l.h - l.there
