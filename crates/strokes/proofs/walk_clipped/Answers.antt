-- `strokes::walk_clipped` meets its contract: the points inside the clip follow each other.
-- Assumes nothing.
use Rattle.std.proofs.Common.{ℕ, ◌<◌, ◌≤◌, List, ap, ◌∙◌, arith}
use Rattle.paint.specs.Paint.{state, Touch, paint}
use Rattle.paint.proofs.ClipLaws.{in-clip}
use Rattle.surface.specs.Pixels.{origin}
use Rattle.line.specs.Line.{point_at, point_count, points}
use Rattle.line.proofs.Sides.{count-le}
use Rattle.strokes.proofs.WalkDraw.{covered-on}
use Rattle.strokes.proofs.PartLaws.{clipped-part, clipped-none}
use Rattle.strokes.proofs.walk_clipped.Goals as goal

pub seek-from-requires : goal.seek-from-requires
seek-from-requires c =
    let start = c.start_of.ensures in
    (c.requires.0.line, c.requires.0.clip, record { within = omega arith; walk = λ h. rw start.0 start.1 })

pub point_count-requires : goal.point_count-requires
point_count-requires c = c.requires.0.line

pub returns-then-from-point_count : goal.returns-then-from-point_count
unfolding paint
returns-then-from-point_count c =
    let a = c.args in
    ap (λ (ts : List Touch). paint a.ink.target ts (state a.mem.now 0 0)) (clipped-none a.ink.fore a.c a.l (λ j h. c.seek-from.ensures.passed j (omega arith) (omega (arith, c.point_count.ensures, c.if-from-point_count.true))))

pub leave-requires : goal.leave-requires
leave-requires c = (c.requires.0.line, c.requires.0.clip, (let b : c.seek-from.result.at < point_count c.args.l = omega (arith, c.seek-from.ensures.spot.within, c.point_count.ensures, c.if-from-point_count.false) in record { spot = c.seek-from.ensures.spot; before = b; inside = c.seek-from.ensures.stops b }))

pub walk_part-requires : goal.walk_part-requires
unfolding points
walk_part-requires c =
    let a = c.args in
    let d = c.requires.0 in
    let e = c.leave.ensures in
    let b : c.seek-from.result.at < point_count a.l = omega (arith, e.some, e.upto) in
    let near : (i : ℕ) → c.seek-from.result.at ≤ i → i < c.leave.result → (origin ≤ (point_at a.l i).x) × (origin ≤ (point_at a.l i).y) =
    λ i g h. let k = in-clip a.c _ _ (e.inside i g h) in (omega (arith, k.left), omega (arith, k.top)) in
    record {
      flat = c.requires.1;
      surface = d.surface;
      line = d.line;
      walk = c.seek-from.ensures.spot.walk b;
      first = omega (arith, count-le a.l);
      start = near c.seek-from.result.at (omega arith) e.some;
      some = omega (arith, e.some);
      upto = e.upto;
      near = near;
      on = λ i g h. covered-on a.c a.l a.ink.target _ 0 (point_count a.l) d.on i (omega arith) (omega (arith, e.upto)) (e.inside i g h);
    }

pub returns : goal.returns
returns c =
    let a = c.args in
    let e = c.leave.ensures in
    c.walk_part.ensures
    ∙ ap (λ (ts : List Touch). paint a.ink.target ts (state a.mem.now 0 0))
    (clipped-part a.ink.fore a.c a.l c.seek-from.result.at _ (omega (arith, e.some)) e.upto (λ j h. c.seek-from.ensures.passed j (omega arith) h) e.inside e.outside)
