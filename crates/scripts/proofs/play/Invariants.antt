-- `scripts::play` meets its contract: the writes to come, from here, leave what all of them leave.
-- Assumes nothing.
use Rattle.std.proofs.Common.{◌≡◌, drop}
use Rattle.engine.specs.Writes.{played}
use Rattle.scripts.specs.Script.{writes_of}
use Rattle.scripts.proofs.play.Given as goal

abbrev pub invariant-loop-offset : goal.invariant-loop-offset
invariant-loop-offset l =
    ((played l.e l.mem (writes_of (drop l.offset-index l.writes))).engine ≡ (played l.fn.engine l.fn.mem (writes_of l.writes)).engine)
    × ((played l.e l.mem (writes_of (drop l.offset-index l.writes))).memory ≡ (played l.fn.engine l.fn.mem (writes_of l.writes)).memory)
