-- `rect::move_rows` meets its contract: the rows moved so far have the source's bytes as they were at the start, and their pixels that changed are counted.
-- Assumes nothing.
use Rattle.rect.proofs.Moves.{RowsMoved}
use Rattle.rect.proofs.move_rows.Given as goal

abbrev pub invariant-loop-j : goal.invariant-loop-j
invariant-loop-j l = RowsMoved l.t l.w l.h l.to_top l.initial.mem l.j l.mem l.r
