-- `patch::paint_across` meets its contract: what remains of the row, painted on the memory now, is the row painted on the memory at the start.
-- Assumes nothing.
use Rattle.paint.proofs.Loops.{RowLeft}
use Rattle.patch.specs.Row.{row_giving}
use Rattle.patch.proofs.paint_across.Given as goal

abbrev pub invariant-loop-i : goal.invariant-loop-i
invariant-loop-i l = RowLeft l.t.ink.target (λ p now. row_giving l.t l.values l.bits now p) l.back l.t.x l.w l.y l.initial.mem l.initial.r l.i l.mem l.r
