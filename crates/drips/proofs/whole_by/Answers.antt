-- `drips::whole_by` meets its contract.
-- Assumes nothing.
use native.Mathlib.Omega.{arith}
use Rattle.host.proofs.Places.{whole-width}
use Rattle.drips.proofs.whole_by.Goals as goal

pub returns : goal.returns
returns c = (
  rw (← c.saturating_sub.ensures, ← c.min.ensures) c.whole_pixels.ensures,
  omega (arith, c.whole_pixels.ensures, whole-width c.args.feed c.min.result),
)
