-- `blocks::solid_line` meets its contract: what remains of the row, painted on the memory now, is the row painted on the memory at the start.
-- Assumes nothing.
use Rattle.blocks.proofs.EvenRows.{line-start, line-again, line-ends}
use Rattle.blocks.proofs.solid_line.Goals as goal

pub loop-x-init : goal.loop-x-init
loop-x-init c = line-start

pub loop-x-preserved : goal.loop-x-preserved
loop-x-preserved c = line-again c.loop-x.invariant c.loop-x-test.true c.put_pixel.ensures c.from-r.ensures

pub returns : goal.returns
returns c = line-ends c.loop-x.invariant c.loop-x-test.false
