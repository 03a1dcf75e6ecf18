-- `blocks::move_lines` meets its contract: the lines so far have come, and where they follow on they are one run.
-- Assumes nothing.
use Rattle.blocks.specs.Blocks.{Laid}
use Rattle.blocks.proofs.move_lines.Given as goal

abbrev pub invariant-loop-q : goal.invariant-loop-q
invariant-loop-q l = Laid l.d l.p l.s l.r l.n l.q l.initial.mem l.mem
