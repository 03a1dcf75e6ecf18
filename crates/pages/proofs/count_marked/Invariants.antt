-- `pages::count_marked` meets its contract: those counted and those left are all.
-- Assumes nothing.
use mathlib.Core.Path.{◌≡◌}
use Prim.Native.Nat.{◌+◌, ◌-◌, ◌≤◌}
use Rattle.pages.specs.Pages.{count_from}
use Rattle.pages.proofs.count_marked.Given as goal

abbrev pub invariant-loop-marked : goal.invariant-loop-marked
invariant-loop-marked l = (l.n + count_from l.marks l.marked-index (4096 - l.marked-index) ≡ count_from l.marks 0 4096) × (l.n ≤ l.marked-index)
