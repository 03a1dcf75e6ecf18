-- `tint::tint_run` meets its contract: what remains of the row, painted on the memory now, is the row painted on the memory at the start.
-- Assumes nothing.
use Prim.Native.Nat.{◌*◌}
use Rattle.tint.proofs.RowLaws.{RunLeft}
use Rattle.tint.proofs.tint_run.Given as goal

abbrev pub invariant-loop-i : goal.invariant-loop-i
invariant-loop-i g l = let m = l.masks in RunLeft l.s m.keep.now m.flip.now m.adds.now m.first l.x l.w l.y l.initial.mem (l.i * 8) l.mem l.r
