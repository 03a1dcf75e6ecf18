-- `strokes::mix_points` meets its contract: what the points that are left do from now on is what all of them do from the start, and the walk is at the next of them.
-- Assumes nothing.
use Rattle.std.proofs.Common.{◌-◌, ◌<◌}
use Rattle.paint.specs.Tally.{tally}
use Rattle.paint.proofs.Loops.{Left}
use Rattle.line.specs.Line.{point_count, points_from, points}
use Rattle.strokes.specs.Walk.{AtPoint}
use Rattle.strokes.specs.Mixed.{pair_of, mix_touches}
use Rattle.strokes.proofs.mix_points.Given as goal

abbrev pub invariant-loop-i : goal.invariant-loop-i
invariant-loop-i g l =
    Left l.track.ink.target (mix_touches l.track.ink l.pattern (points l.track.line)) l.initial.mem (tally 0 0) l._i (mix_touches l.track.ink l.pattern (points_from l.track.line l._i (point_count l.track.line - l._i))) l.mem l.tally
    × (l._i < point_count l.track.line → AtPoint (pair_of l.track.ink) l.track.line l._i l.w)
