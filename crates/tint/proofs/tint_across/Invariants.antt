-- `tint::tint_across` meets its contract: the bytes are changed first, and then the pixels written are counted.
-- Assumes nothing.
use mathlib.Core.Path.{◌≡◌}
use Prim.Native.Nat.{◌≤◌}
use Rattle.tint.proofs.RowLaws.{total}
use Rattle.tint.proofs.tint_across.Given as goal

abbrev pub invariant-loop-i : goal.invariant-loop-i
invariant-loop-i g l = (l.more ≡ total l.adds l.first l.i) × (l.more ≤ l.i)
