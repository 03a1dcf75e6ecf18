-- `runs::run_up` meets its contract: a byte is read before it is overwritten.
-- Assumes nothing.
use native.Mathlib.Omega.{arith}
use Rattle.runs.proofs.Runs.{up_begun}
use Rattle.runs.proofs.run_up.Goals as goal

pub loop-i-preserved : goal.loop-i-preserved
loop-i-preserved c =
    let p = c.requires in
    up_begun c.loop-i.invariant (omega (arith, p.0.to c.loop-i.i c.loop-i-test.true, c.loop-i.invariant.long)) (λ j l. p.1.unread c.loop-i.i j l c.loop-i-test.true)
