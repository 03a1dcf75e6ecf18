-- `runs::run_up` meets its contract: a byte is read before it is overwritten.
-- Assumes nothing.
use Rattle.runs.specs.Runs.{Shifted}
use Rattle.runs.proofs.run_up.Given as goal

abbrev pub invariant-loop-i : goal.invariant-loop-i
invariant-loop-i l = Shifted l.d l.s 0 l.i l.initial.mem l.mem
