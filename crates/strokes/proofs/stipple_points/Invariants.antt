-- `strokes::stipple_points` meets its contract: what the points that are left do from now on is what all of them do from the start, and the walk is at the next of them.
-- Assumes nothing.
use Rattle.std.proofs.Common.{◌≡◌, ◌-◌, ◌<◌}
use Rattle.paint.specs.Tally.{tally}
use Rattle.line.specs.Line.{point_count, points_from, points}
use Rattle.line.specs.Stipple.{style_after}
use Rattle.strokes.specs.Walk.{walk_touches, AtPoint}
use Rattle.paint.proofs.Loops.{Left}
use Rattle.strokes.proofs.stipple_points.Given as goal

abbrev pub invariant-loop-i : goal.invariant-loop-i
invariant-loop-i g l =
    Left l.ink.target (walk_touches l.ink l.pen l.fn.style (points l.fn.l)) l.initial.mem (tally 0 0) l._i (walk_touches l.ink l.pen l.p (points_from l.fn.l l._i (point_count l.fn.l - l._i))) l.mem l.tally
    × (style_after l.pen (point_count l.fn.l - l._i) l.p ≡ style_after l.pen (point_count l.fn.l) l.fn.style)
    × (l._i < point_count l.fn.l → AtPoint l.ink.target l.fn.l l._i l.w)
