-- `wash::Washing::wash_lines` meets its contract: the rows so far are changed, and what they changed is counted.
-- Assumes nothing.
use Rattle.wash.specs.Wash.{RowsWashed}
use Rattle.wash.proofs.Washing.wash_lines.Given as goal

abbrev pub invariant-loop-j : goal.invariant-loop-j
invariant-loop-j l = RowsWashed l.self l.x l.y l.w l.j l.r l.initial.mem l.mem
