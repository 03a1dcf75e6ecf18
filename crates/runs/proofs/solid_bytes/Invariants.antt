-- `runs::solid_bytes` meets its contract: what remains of the pixels, painted on the memory now, is all of them painted on the memory at the start.
-- Assumes nothing.
use Prim.Native.Nat.{◌*◌}
use Rattle.runs.proofs.Along.{EvenLeft}
use Rattle.runs.proofs.solid_bytes.Given as goal

abbrev pub invariant-loop-i : goal.invariant-loop-i
invariant-loop-i l = EvenLeft 1 l.v l.at l.w l.initial.mem (l.i * 128) l.mem l.r
