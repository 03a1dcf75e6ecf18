-- `runs::solid_rows` meets its contract: what remains of the rectangle, painted on the memory now, is the rectangle painted on the memory at the start.
-- Assumes nothing.
use mathlib.Core.Bool.{false}
use mathlib.Core.Option.{some}
use Prim.Native.Nat.{◌*◌}
use Rattle.paint.specs.Tally.{tally}
use Rattle.paint.proofs.Loops.{RowsLeft}
use Rattle.runs.proofs.solid_rows.Given as goal

abbrev pub invariant-loop-j : goal.invariant-loop-j
invariant-loop-j l = RowsLeft l.s (λ p now. some l.v) false false l.x0 l.y0 l.w l.h l.initial.mem l.j l.mem (tally (l.w * l.j) l.changed)
