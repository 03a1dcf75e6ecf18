-- `tint::tint_rows` meets its contract: what remains of the rectangle, painted on the memory now, is the rectangle painted on the memory at the start.
-- Assumes nothing.
use mathlib.Core.Path.{◌≡◌}
use mathlib.Core.Bool.{false}
use lib.ListN.{length}
use Rattle.paint.proofs.Loops.{RowsLeft}
use Rattle.tint.specs.Masking.{down_tint}
use Rattle.tint.proofs.tint_rows.Given as goal

abbrev pub invariant-loop-j : goal.invariant-loop-j
invariant-loop-j l = RowsLeft l.s (λ p now. down_tint l.s l.keep l.flip l.adds l.x l.y now p) false false l.x l.y l.w l.h l.initial.mem l.j l.mem l.n × (length l.old ≡ 1024)
