-- `tint::tint_row` meets its contract: what remains of the row, painted on the memory now, is the row painted on the memory at the start.
-- Assumes nothing.
use mathlib.Core.Path.{◌≡◌}
use Prim.Native.Nat.{◌*◌}
use lib.ListN.{length}
use Rattle.tint.proofs.RowLaws.{TintLeft}
use Rattle.tint.proofs.tint_row.Given as goal

abbrev pub invariant-loop-i : goal.invariant-loop-i
invariant-loop-i l =
    let m = l.masks in
    TintLeft l.s m.keep.now m.flip.now m.adds.now m.first l.x l.w l.y l.initial.mem l.initial.r (l.i * 256) l.mem l.r
    × (length l.old ≡ length l.initial.old)
