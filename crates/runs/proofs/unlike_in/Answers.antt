-- `runs::unlike_in` meets its contract: those counted, and those that remain, are all of them.
-- Assumes nothing.
use mathlib.Core.Path.{ap₂}
use mathlib.Core.Bool.{not}
use Prim.Native.Nat.{ℕ}
use lib.Dec.{eqb}
use Rattle.surface.specs.Place.{one}
use Rattle.runs.proofs.Alike.{counted-turn, counted-all}
use Rattle.runs.proofs.unlike_in.Goals as goal

pub loop-i-preserved : goal.loop-i-preserved
loop-i-preserved g c =
    rw c.and-r.ensures (counted-turn c.loop-i.invariant c.loop-i-test.true (ap₂ (λ (p q : ℕ). one (not (eqb p q))) c.get_bytes.ensures c.get_bytes-in-loop-i.ensures))

pub returns : goal.returns
returns g c = rw c.total.ensures (counted-all c.loop-i.invariant c.loop-i-test.false)
