-- `patch::paint_rows` meets its contract: what remains of the rectangle, painted on the memory now, is the rectangle painted on the memory at the start.
-- Assumes nothing.
use Rattle.paint.proofs.Loops.{RowsLeft}
use Rattle.sweep.specs.Copy.{giving}
use Rattle.patch.proofs.paint_rows.Given as goal

abbrev pub invariant-loop-j : goal.invariant-loop-j
invariant-loop-j l = RowsLeft l.t.ink.target (λ p now. giving l.t l.pattern now now p) l.to_left l.to_top l.t.x l.t.y l.w l.h l.initial.mem l.j l.mem l.n
