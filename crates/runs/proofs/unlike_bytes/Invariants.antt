-- `runs::unlike_bytes` meets its contract: those counted, and those that remain, are all of them.
-- Assumes nothing.
use Prim.Native.Nat.{◌*◌}
use Rattle.runs.proofs.Alike.{Counted}
use Rattle.runs.proofs.unlike_bytes.Given as goal

abbrev pub invariant-loop-i : goal.invariant-loop-i
invariant-loop-i l = Counted l.a l.b 1 l.d l.s l.w (l.i * 128) l.r
