-- `points::paint_each` meets its contract: what the points that are left do from now on is what all of them do from the start, and the walk is at the next of them.
-- Assumes nothing.
use native.Mathlib.Omega.{arith}
use mathlib.Core.Path.{refl, sym, ap, ◌∙◌}
use mathlib.Core.List.{List, [], ◌∷◌}
use Prim.Native.Nat.{◌<◌, ◌≤◌}
use Rattle.line.specs.Line.{point_count}
use lib.ListN.{length}
use Rattle.spans.specs.Span.{all_on}
use Rattle.paint.proofs.Tallies.{room-first}
use Rattle.paint.proofs.Loops.{left-begins, left-takes, left_ended}
use Rattle.line.specs.declared.Point.{Point}
use Rattle.line.specs.Draw.{covered_points, line_touches}
use Rattle.line.proofs.Sides.{count-le, longer-lt}
use Rattle.line.proofs.PointLaws.{from_start}
use Rattle.line.proofs.TreadLaws.{way-starts, way-placed, way-point, way-small, way-goes}
use Rattle.line.proofs.StippleLaws.{style-start, style-turn, style-done}
use Rattle.line.proofs.DrawLaws.{one-touch, on-left, touches-left, touches_none}
use Rattle.points.proofs.paint_each.Goals as goal

pub loop-i-init : goal.loop-i-init
loop-i-init c =
    let a = c.args in
    let q = from_start a.l _ refl in (
      left-begins (ap (line_touches a.ink a.pattern.now a.c a.pen a.style) q),
      style-start a.pen _ _ a.style refl,
      ap (λ (ps : List Point). all_on a.ink.target (length a.mem.now) (covered_points a.c ps)) q ∙ c.requires.on,
      (λ _. way-starts c.long_side-n.ensures c.short_side-m.ensures),
    )

pub place_point-p-requires : goal.place_point-p-requires
place_point-p-requires c = way-placed (c.loop-i.invariant.3 (omega arith))

pub paint_point-done-requires : goal.paint_point-done-requires
paint_point-done-requires c =
    let a = c.args in
    let p = c.requires in
    let k = c.loop-i in
    let n = on-left a.ink.target (length a.mem.now) a.c a.l k.i _ (omega arith) k.invariant.2 in
    rw (k.invariant.0.long, way-point (c.loop-i.invariant.3 (omega arith)) c.place_point-p.ensures) (record {
      surface = p.surface;
      clip = p.clip;
      on = n.0;
      room = room-first k.invariant.0.upto (omega (arith, longer-lt p.line, count-le a.l));
    })

pub tread_on-t-requires : goal.tread_on-t-requires
tread_on-t-requires c = way-small (c.loop-i.invariant.3 (omega arith)) c.requires.line

pub loop-i-preserved : goal.loop-i-preserved
loop-i-preserved c =
    let a = c.args in
    let k = c.loop-i in
    let h : k.i < point_count a.l = omega arith in
    let here = way-point (c.loop-i.invariant.3 (omega arith)) c.place_point-p.ensures in
    let r = c.paint_point-done.ensures in (
      left-takes k.invariant.0 (line_touches a.ink a.pattern.now a.c a.pen k.done.style (c.place_point-p.result ∷ []))
          (touches-left a.ink a.pattern.now a.c a.pen a.l k.i _ k.done.style h here r.1)
          (omega (arith, one-touch a.ink a.pattern.now a.c a.pen c.place_point-p.result k.done.style)) r.0,
      style-turn a.pen k.i _ k.done.style _ h r.1 ∙ k.invariant.1,
      (on-left a.ink.target (length a.mem.now) a.c a.l k.i _ h k.invariant.2).1,
      (λ g. way-goes (c.loop-i.invariant.3 (omega arith)) c.tread_on-t.ensures refl g),
    )

pub returns : goal.returns
returns c =
    let a = c.args in
    let k = c.loop-i in
    let h : point_count a.l ≤ k.i = omega arith in (
      left_ended k.invariant.0 (touches_none a.ink a.pattern.now a.c a.pen a.l k.i _ k.done.style h),
      sym (style-done a.pen k.i _ k.done.style h) ∙ k.invariant.1,
    )
