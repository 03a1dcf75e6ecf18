-- `wash::spread_row` meets its contract: the bytes so far are repeated.
-- Assumes nothing.
use mathlib.Core.Path.{◌≡◌}
use Prim.Native.Nat.{◌%◌, ◌≤◌}
use lib.ListN.{length}
use Rattle.wash.specs.Wash.{Repeated}
use Rattle.wash.proofs.spread_row.Given as goal

abbrev pub invariant-loop-i : goal.invariant-loop-i
invariant-loop-i l = Repeated l.masks l.i l.out × (l.i ≤ length l.initial.out) × (l.i % length l.masks ≡ 0)
