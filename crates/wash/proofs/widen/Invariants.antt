-- `wash::widen` meets its contract: the rows so far are wide.
-- Assumes nothing.
use Rattle.wash.specs.Wash.{Widened}
use Rattle.wash.proofs.widen.Given as goal

abbrev pub invariant-loop-r : goal.invariant-loop-r
invariant-loop-r l = Widened l.table l.r l.period l.n l.out
