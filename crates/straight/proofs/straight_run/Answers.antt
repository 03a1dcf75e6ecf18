-- `straight::straight_run` meets its contract: each turn gives its pixel what is its own, from either end.
-- Assumes nothing.
use native.Mathlib.Omega.{arith}
use Rattle.paint.proofs.Loops.{row-begins, row-full}
use Rattle.straight.proofs.StraightLaws.{as_one, in-turn, pixel-copies, row-copies}
use Rattle.straight.proofs.straight_run.Goals as goal

pub loop-i-init : goal.loop-i-init
loop-i-init g c = row-begins

pub pixel_at-requires : goal.pixel_at-requires
pixel_at-requires g c =
    let p = c.requires in
    omega (arith, (pixel-copies p.0 p.1 c.place-k.result (in-turn _ c.loop-i-test.true c.place-k.ensures)).stored)

pub pixel_at-requires-in-loop-i : goal.pixel_at-requires-in-loop-i
pixel_at-requires-in-loop-i g c =
    let p = c.requires in
    omega (arith, (pixel-copies p.0 p.1 c.place-k.result (in-turn _ c.loop-i-test.true c.place-k.ensures)).read)

pub straight_pixel-changed-requires : goal.straight_pixel-changed-requires
straight_pixel-changed-requires g c =
    let p = c.requires in
    rw (c.pixel_at.ensures, c.pixel_at-in-loop-i.ensures, c.loop-i.invariant.left.long)
    (pixel-copies p.0 p.1 c.place-k.result (in-turn _ c.loop-i-test.true c.place-k.ensures))

pub overflow_add-r : goal.overflow_add-r
overflow_add-r g c = omega (arith, c.loop-i.invariant.left.upto.changed, c.from-r.ensures, (as_one c.straight_pixel-changed.result).1)

pub loop-i-preserved : goal.loop-i-preserved
loop-i-preserved g c =
    let p = c.requires in
    let k = c.place-k in
    row-copies p.0 p.1 k.result c.loop-i.invariant c.loop-i-test.true k.ensures
    (rw (c.pixel_at.ensures, c.pixel_at-in-loop-i.ensures) at c.straight_pixel-changed.ensures) c.from-r.ensures

pub returns : goal.returns
returns g c = row-full c.loop-i.invariant c.loop-i-test.false
