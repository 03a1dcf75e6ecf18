-- `strokes::walk_part` meets its contract: what the points that are left do from now on is what all of them do from the start, and the walk is at the next of them.
-- Assumes nothing.
use Rattle.std.proofs.Common.{◌-◌, ◌<◌}
use Rattle.paint.specs.Tally.{tally}
use Rattle.paint.proofs.Loops.{Left}
use Rattle.line.specs.Line.{points_from}
use Rattle.strokes.specs.Walk.{plain_touches, AtPoint}
use Rattle.strokes.proofs.walk_part.Given as goal

abbrev pub invariant-loop-i : goal.invariant-loop-i
invariant-loop-i g l =
    Left l.ink.target (plain_touches l.ink.fore (points_from l.fn.part.line l.fn.part.from.at (l.fn.part.past - l.fn.part.from.at))) l.initial.mem (tally 0 0) l._i (plain_touches l.ink.fore (points_from l.fn.part.line l._i (l.fn.part.past - l._i))) l.mem l.tally
    × (l._i < l.fn.part.past → AtPoint l.ink.target l.fn.part.line l._i l.w)
