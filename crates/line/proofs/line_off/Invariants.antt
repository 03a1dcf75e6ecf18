-- `line::line_off` meets its contract: the rectangle that holds the covered points is on the surface, or the points that are left decide it.
-- Assumes nothing.
use mathlib.Core.Path.{◌≡◌}
use Prim.Native.Nat.{◌-◌, ◌<◌}
use Rattle.line.specs.Line.{point_count, points_from, points}
use Rattle.line.specs.Draw.{line_off}
use Rattle.line.proofs.TreadLaws.{OnWay}
use Rattle.line.proofs.line_off.Given as goal

abbrev pub invariant-loop-i : goal.invariant-loop-i
invariant-loop-i l =
    (line_off l.s l.len l.c (points_from l.l l.i (point_count l.l - l.i)) ≡ line_off l.s l.len l.c (points l.l)) × (l.i < point_count l.l → OnWay l.l l.n l.m l.i l.t)
