-- `sweep::paint_rows` meets its contract: what remains of the rectangle, painted on the memory now, is the rectangle painted on the memory at the start.
-- Assumes nothing.
use Rattle.paint.proofs.Loops.{rows-begin, rows-go-on, rows-ended}
use Rattle.sweep.proofs.TaskLaws.{can-row}
use Rattle.sweep.proofs.paint_rows.Goals as goal

pub loop-j-init : goal.loop-j-init
loop-j-init c = rows-begin

pub paint_row-n-requires : goal.paint_row-n-requires
paint_row-n-requires c = rw c.brush_of-b.ensures.0 (can-row c.requires.0 c.loop-j.invariant c.loop-j-test.true c.place.ensures)

pub loop-j-preserved : goal.loop-j-preserved
loop-j-preserved c =
    let e = c.brush_of-b.ensures in
    rows-go-on c.loop-j.invariant c.place.result c.loop-j-test.true c.place.ensures (rw (e.0, e.1) at c.paint_row-n.ensures)

pub returns : goal.returns
returns c = rows-ended c.loop-j.invariant c.loop-j-test.false
