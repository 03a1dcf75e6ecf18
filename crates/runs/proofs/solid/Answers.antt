-- `runs::solid` meets its contract: what remains of the pixels, painted on the memory now, is all of them painted on the memory at the start.
-- Assumes nothing.
use mathlib.Core.Path.{refl}
use Rattle.runs.proofs.Along.{even-turn, even-ended}
use Rattle.runs.proofs.solid.Goals as goal

pub loop-i-preserved : goal.loop-i-preserved
loop-i-preserved g c = rw c.and-r.ensures (even-turn c.loop-i.invariant c.loop-i-test.true c.store_bytes.ensures refl)

pub returns : goal.returns
returns g c = rw c.total.ensures (even-ended c.loop-i.invariant c.loop-i-test.false)
