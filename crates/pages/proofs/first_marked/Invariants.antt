-- `pages::first_marked` meets its contract: the search from here on finds what that from the start does.
-- Assumes nothing.
use mathlib.Core.Path.{◌≡◌}
use Prim.Native.Nat.{◌-◌}
use Rattle.pages.specs.Pages.{first_from}
use Rattle.pages.proofs.first_marked.Given as goal

abbrev pub invariant-loop-k : goal.invariant-loop-k
invariant-loop-k l = first_from l.marks l.k (4096 - l.k) ≡ first_from l.marks l.page (4096 - l.page)
