-- `points::paint_point` meets its contract: a point outside the clip is passed, one inside it is put there.
-- Assumes nothing.
use native.Mathlib.Omega.{arith}
use mathlib.Core.Path.{sym, ◌∙◌}
use Rattle.paint.specs.Paint.{tallied}
use Rattle.paint.proofs.ClipLaws.{in-clip}
use Rattle.line.proofs.DrawLaws.{point-on, paint-covered, paint-clipped}
use Rattle.points.proofs.paint_point.Goals as goal

pub returns-then-not-covers : goal.returns-then-not-covers
returns-then-not-covers c =
    let a = c.args in
    let out = sym c.covers.ensures ∙ c.if-not-covers.true in
    (paint-clipped a.ink a.pattern.now a.c a.pen a.p a.done.style (tallied a.mem.now a.done.tally) out, c.style_after-style.ensures)

pub overflow_sub-p : goal.overflow_sub-p
overflow_sub-p c = omega (arith, in-clip _ _ _ (sym c.covers.ensures ∙ c.if-not-covers.false))

pub overflow_sub-p-2 : goal.overflow_sub-p-2
overflow_sub-p-2 c = omega (arith, in-clip _ _ _ (sym c.covers.ensures ∙ c.if-not-covers.false))

pub put_point-requires : goal.put_point-requires
put_point-requires c =
    let a = c.args in
    let p = c.requires in
    let k = in-clip _ _ _ (sym c.covers.ensures ∙ c.if-not-covers.false) in (
      record { on = record { colour = p.surface; on = point-on a.ink.target _ a.c a.p p.on (sym c.covers.ensures ∙ c.if-not-covers.false) }; across = omega (arith, p.clip); down = omega (arith, p.clip) },
      p.room,
    )

pub returns : goal.returns
returns c =
    let a = c.args in (
      paint-covered a.ink a.pattern.now a.c a.pen a.p a.done.style (tallied a.mem.now a.done.tally) (sym c.covers.ensures ∙ c.if-not-covers.false) c.stipple_bit-bit.ensures c.put_point.ensures,
      c.style_after-style.ensures,
    )
