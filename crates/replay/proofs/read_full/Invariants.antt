-- `replay::read_full` is safe and ends: the measure is what is left of b.
-- Assumes nothing.
use Rattle.std.proofs.Common.{◌-◌, ◌≤◌, length}
use Rattle.replay.proofs.read_full.Given as goal

abbrev pub invariant-loop-done : goal.invariant-loop-done
invariant-loop-done g l = l.done ≤ length l.b

abbrev pub decreases-loop-done : goal.decreases-loop-done
decreases-loop-done g l = length l.b - l.done
