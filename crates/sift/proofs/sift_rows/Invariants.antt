-- `sift::sift_rows` meets its contract: the rows left, marked now, are those of the rectangle, marked at the start.
-- Assumes nothing.
use mathlib.Core.Path.{◌≡◌}
use mathlib.Core.Bool.{false}
use Prim.Native.Nat.{◌+◌, ◌-◌}
use Rattle.surface.specs.Pixels.{rect}
use Rattle.pages.specs.Pages.{marking}
use Rattle.sift.specs.Sift.{chosen, wet}
use Rattle.sift.proofs.sift_rows.Given as goal

abbrev pub invariant-loop-j : goal.invariant-loop-j
invariant-loop-j l =
    marking l.v.task.ink.target (chosen (wet l.v l.pattern l.mem) (rect false false l.x (l.y + l.j) l.w (l.h - l.j))) l.marks
    ≡ marking l.v.task.ink.target (chosen (wet l.v l.pattern l.mem) (rect false false l.x l.y l.w l.h)) l.initial.marks
