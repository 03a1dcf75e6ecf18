-- `dots::mark_dots` meets its contract: the points that are left, marked from now on, are all of them, marked from the start, and the walk is at the next of them.
-- Assumes nothing.
use mathlib.Core.Path.{◌≡◌}
use mathlib.Core.Bool.{true}
use Prim.Native.Nat.{ℕ, ◌-◌, ◌<◌}
use Rattle.spans.specs.Span.{all_on}
use Rattle.line.specs.Line.{points_from, points}
use Rattle.line.specs.Draw.{covered_points}
use Rattle.line.proofs.TreadLaws.{OnWay}
use Rattle.pages.specs.Pages.{marking}
use Rattle.dots.specs.Dots.{dotted}
use Rattle.dots.proofs.mark_dots.Given as goal

abbrev pub invariant-loop-i : goal.invariant-loop-i
invariant-loop-i l =
    (marking l.ink.target (dotted l.ink l.c l.pen l.word (points_from l.l l.i (l.total - l.i))) l.marks ≡ marking l.ink.target (dotted l.ink l.c l.pen l.style (points l.l)) l.initial.marks)
    × ((len : ℕ) → all_on l.ink.target len (covered_points l.c (points l.l)) ≡ true → all_on l.ink.target len (covered_points l.c (points_from l.l l.i (l.total - l.i))) ≡ true)
    × (l.i < l.total → OnWay l.l l.n l.m l.i l.t)
