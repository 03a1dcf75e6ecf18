-- `strokes::walk_plain` meets its contract: a whole line is the part from its start on.
-- Assumes nothing.
use Rattle.std.proofs.Common.{ℕ, ◌-◌, List, ap, ◌∙◌, arith}
use Rattle.paint.specs.Paint.{state, paint}
use Rattle.line.specs.declared.Point.{Point}
use Rattle.line.specs.Line.{points_from}
use Rattle.line.proofs.Sides.{count-le}
use Rattle.line.proofs.PointLaws.{from_start}
use Rattle.strokes.specs.Walk.{plain_touches}
use Rattle.strokes.proofs.WalkLaws.{ahead-shown}
use Rattle.strokes.proofs.walk_plain.Goals as goal

pub point_count-requires : goal.point_count-requires
point_count-requires c = c.requires.ahead.line

pub walk_part-requires : goal.walk_part-requires
walk_part-requires c =
    let p = c.requires in
    let from = c.start_of.ensures in
    let start = ahead-shown p.ahead c.start_of.result.at (omega arith) in
    record {
      flat = p.flat;
      surface = p.surface;
      line = p.ahead.line;
      walk = rw from.0 from.1;
      first = omega arith;
      start = (start.x, start.y);
      some = omega arith;
      upto = omega (arith, c.point_count.ensures);
      near = λ i g h. let o = ahead-shown p.ahead i (omega (arith, count-le c.args.l, c.point_count.ensures)) in (o.x, o.y);
      on = λ i g h. p.on i (omega (arith, c.point_count.ensures));
    }

pub returns : goal.returns
returns c =
    let a = c.args in
    c.walk_part.ensures
    ∙ ap (λ (ps : List Point). paint a.ink.target (plain_touches a.ink.fore ps) (state a.mem.now 0 0))
    (ap (λ (i : ℕ). points_from a.l i (c.point_count.result - i)) c.start_of.ensures.0 ∙ from_start a.l _ c.point_count.ensures)
