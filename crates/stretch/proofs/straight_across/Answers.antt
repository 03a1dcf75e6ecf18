-- `stretch::straight_across` meets its contract: each turn gives its pixel what is its own, and the walk goes on.
-- Assumes nothing.
use native.Mathlib.Omega.{arith}
use Rattle.paint.proofs.Loops.{row-begins, row-full}
use Rattle.straight.proofs.StraightLaws.{as_one}
use Rattle.stretch.proofs.Taken.{can-step, steps_on, walk_begins, walk-place}
use Rattle.stretch.proofs.Straight.{run-here, pixel-copies, row-copies}
use Rattle.stretch.proofs.straight_across.Goals as goal

pub loop-i-init : goal.loop-i-init
loop-i-init g c = let b = c.args.b.now in (row-begins, walk_begins b.stretch.columns b.x b.begins)

pub pixel_at-at-requires : goal.pixel_at-at-requires
pixel_at-at-requires g c =
    let p = c.requires in
    omega (arith, (pixel-copies p.0 (run-here p.1.0 c.byte_of-d.ensures c.byte_of-s.ensures) c.loop-i.i c.loop-i-test.true).stored)

pub overflow_sub-walk : goal.overflow_sub-walk
overflow_sub-walk g c =
    let k = c.loop-i in
    omega (arith, walk-place c.args.b.now.stretch.columns _ k.invariant.1, (c.requires.0.each k.i c.loop-i-test.true).left)

pub pixel_at-source-requires : goal.pixel_at-source-requires
pixel_at-source-requires g c =
    let p = c.requires in
    let k = c.loop-i in
    rw (walk-place c.args.b.now.stretch.columns _ k.invariant.1)
    (omega (arith, (pixel-copies p.0 (run-here p.1.0 c.byte_of-d.ensures c.byte_of-s.ensures) k.i c.loop-i-test.true).read))

pub straight_pixel-requires : goal.straight_pixel-requires
straight_pixel-requires g c =
    let p = c.requires in
    let k = c.loop-i in
    rw (c.pixel_at-at.ensures, c.pixel_at-source.ensures, k.invariant.0.left.long, walk-place c.args.b.now.stretch.columns _ k.invariant.1)
    (pixel-copies p.0 (run-here p.1.0 c.byte_of-d.ensures c.byte_of-s.ensures) k.i c.loop-i-test.true, p.1.1)

pub overflow_add-r : goal.overflow_add-r
overflow_add-r g c = omega (arith, c.loop-i.invariant.0.left.upto.changed, c.from-r.ensures, (as_one c.straight_pixel.result).1)

pub next-walk-requires : goal.next-walk-requires
next-walk-requires g c =
    let b = c.args.b.now in
    let k = c.loop-i in
    can-step b.x b.w k.i c.requires.0.first c.requires.0.last k.invariant.1 c.loop-i-test.true

pub loop-i-preserved : goal.loop-i-preserved
loop-i-preserved g c =
    let b = c.args.b.now in
    let p = c.requires in
    let k = c.loop-i in
    let more = c.loop-i-test.true in (
      row-copies p.0 (run-here p.1.0 c.byte_of-d.ensures c.byte_of-s.ensures) k.i k.invariant.0 k.invariant.1 more
          (rw (c.pixel_at-at.ensures, c.pixel_at-source.ensures) at c.straight_pixel.ensures) c.from-r.ensures,
      steps_on b.x b.w k.i p.0.first p.0.last k.invariant.1 more c.next-walk.ensures,
    )

pub returns : goal.returns
returns g c = row-full c.loop-i.invariant.0 c.loop-i-test.false
