-- `pages::mark_rect` meets its contract: the rows left, marked now, are the rectangle, marked at the start.
-- Assumes nothing.
use mathlib.Core.Path.{◌≡◌}
use mathlib.Core.Bool.{false}
use Prim.Native.Nat.{◌+◌, ◌-◌}
use Rattle.surface.specs.Pixels.{rect}
use Rattle.pages.specs.Pages.{marking}
use Rattle.pages.proofs.mark_rect.Given as goal

abbrev pub invariant-loop-j : goal.invariant-loop-j
invariant-loop-j l = marking l.s (rect false false l.x (l.y + l.j) l.w (l.h - l.j)) l.marks ≡ marking l.s (rect false false l.x l.y l.w l.h) l.initial.marks

abbrev pub decreases-loop-j : goal.decreases-loop-j
decreases-loop-j l = l.h - l.j
