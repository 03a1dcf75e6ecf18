-- `wash::count_rows` meets its contract: what was counted, and what remains, is all.
-- Assumes nothing.
use mathlib.Core.Path.{◌≡◌}
use Prim.Native.Nat.{◌+◌, ◌-◌, ◌*◌, ◌≤◌}
use Rattle.wash.specs.Count.{countings}
use Rattle.wash.proofs.count_rows.Given as goal

abbrev pub invariant-loop-j : goal.invariant-loop-j
invariant-loop-j l = (l.r + countings l.adds l.w l.j (l.h - l.j) ≡ countings l.adds l.w 0 l.h) × (l.r ≤ 8192 * l.j)
