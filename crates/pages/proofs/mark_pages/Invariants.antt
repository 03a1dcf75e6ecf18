-- `pages::mark_pages` meets its contract: the pages left to mark, marked now, are all of them, marked at the start.
-- Assumes nothing.
use mathlib.Core.Path.{◌≡◌}
use Prim.Native.Nat.{◌-◌}
use Rattle.pages.specs.Pages.{marked_at}
use Rattle.pages.specs.Extent.{starts}
use Rattle.pages.proofs.mark_pages.Given as goal

abbrev pub invariant-loop-page : goal.invariant-loop-page
invariant-loop-page l = marked_at (starts l.page (l.past - l.page)) l.marks ≡ marked_at (starts l.first (l.past - l.first)) l.initial.marks
