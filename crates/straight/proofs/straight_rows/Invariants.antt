-- `straight::straight_rows` meets its contract: what remains of the rectangle, painted on the memory now, is the rectangle painted on the memory at the start.
-- Assumes nothing.
use Prim.Native.Nat.{◌*◌}
use Rattle.paint.specs.Tally.{tally}
use Rattle.paint.proofs.Loops.{RowsLeft}
use Rattle.straight.specs.Straight.{straight_giving}
use Rattle.straight.proofs.straight_rows.Given as goal

abbrev pub invariant-loop-i : goal.invariant-loop-i
invariant-loop-i l = RowsLeft l.t.target (λ p now. straight_giving l.t now p) l.to_left l.to_top l.t.x l.t.y l.w l.h l.initial.mem l.i l.mem (tally (l.w * l.i) l.changed)
