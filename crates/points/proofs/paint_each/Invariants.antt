-- `points::paint_each` meets its contract: what the points that are left do from now on is what all of them do from the start, and the walk is at the next of them.
-- Assumes nothing.
use mathlib.Core.Path.{◌≡◌}
use mathlib.Core.Bool.{true}
use Prim.Native.Nat.{◌-◌, ◌<◌}
use lib.ListN.{length}
use Rattle.spans.specs.Span.{all_on}
use Rattle.paint.specs.Tally.{tally}
use Rattle.paint.proofs.Loops.{Left}
use Rattle.line.specs.Line.{point_count, points_from, points}
use Rattle.line.specs.Stipple.{style_after}
use Rattle.line.specs.Draw.{covered_points, line_touches}
use Rattle.line.proofs.TreadLaws.{OnWay}
use Rattle.points.proofs.paint_each.Given as goal

abbrev pub invariant-loop-i : goal.invariant-loop-i
invariant-loop-i l =
    Left l.ink.target (line_touches l.ink l.pattern l.c l.pen l.style (points l.l)) l.initial.mem (tally 0 0) l.i (line_touches l.ink l.pattern l.c l.pen l.done.style (points_from l.l l.i (point_count l.l - l.i))) l.mem l.done.tally
    × (style_after l.pen (point_count l.l - l.i) l.done.style ≡ style_after l.pen (point_count l.l) l.style)
    × (all_on l.ink.target (length l.initial.mem) (covered_points l.c (points_from l.l l.i (point_count l.l - l.i))) ≡ true)
    × (l.i < point_count l.l → OnWay l.l l.n l.m l.i l.t)
