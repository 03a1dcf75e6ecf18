-- `sift::sift_row` meets its contract: the pixels left, marked now, are those of the row, marked at the start.
-- Assumes nothing.
use mathlib.Core.Path.{◌≡◌}
use mathlib.Core.Bool.{false}
use Prim.Native.Nat.{◌+◌, ◌-◌, ◌≤◌}
use Rattle.surface.specs.Pixels.{across}
use Rattle.pages.specs.Pages.{marking}
use Rattle.sift.specs.Sift.{chosen, wet}
use Rattle.sift.proofs.sift_row.Given as goal

abbrev pub invariant-loop-i : goal.invariant-loop-i
invariant-loop-i l =
    (l.i ≤ l.w)
    × (marking l.v.task.ink.target (chosen (wet l.v l.pattern l.mem) (across false (l.x + l.i) (l.w - l.i) l.y)) l.marks
    ≡ marking l.v.task.ink.target (chosen (wet l.v l.pattern l.mem) (across false l.x l.w l.y)) l.initial.marks)

abbrev pub decreases-loop-i : goal.decreases-loop-i
decreases-loop-i l = l.w - l.i
