-- `runs::solid_rows` meets its contract: what remains of the rectangle, painted on the memory now, is the rectangle painted on the memory at the start.
-- Assumes nothing.
use native.Mathlib.Nat.{mul-zero}
use native.Mathlib.Omega.{arith}
use mathlib.Core.Path.{refl}
use Rattle.paint.proofs.Loops.{rows-begin, rows_fill, rows-sum, rows-full}
use Rattle.runs.proofs.solid_rows.Goals as goal

pub loop-j-init : goal.loop-j-init
loop-j-init c = rw mul-zero rows-begin

pub overflow_add-changed : goal.overflow_add-changed
overflow_add-changed c =
    omega (arith, rows-sum c.loop-j.invariant (omega (arith, c.requires.1.wide)) (omega (arith, c.requires.1.high)) c.loop-j-test.true _ c.solid_row-changed.ensures)

pub loop-j-preserved : goal.loop-j-preserved
loop-j-preserved c = rows_fill c.loop-j.invariant _ c.loop-j-test.true refl c.solid_row-changed.ensures

pub returns : goal.returns
returns c = rows-full c.loop-j.invariant c.loop-j-test.false
