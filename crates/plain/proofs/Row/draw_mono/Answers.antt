-- `plain::Row::draw_mono` meets its contract: each turn draws the pixels of the stretch that one byte holds.
-- Assumes nothing.
use native.Mathlib.Omega.{arith}
use Rattle.plain.proofs.Stretch.{within-part}
use Rattle.plain.proofs.Parts.{stretch-begins, stretch-room, stretch-takes, stretch-ended}
use Rattle.plain.proofs.Row.draw_mono.Goals as goal

pub loop-i-init : goal.loop-i-init
loop-i-init c = stretch-begins

pub overflow_sub-i : goal.overflow_sub-i
overflow_sub-i c = omega arith

pub overflow_sub-end : goal.overflow_sub-end
overflow_sub-end c = omega (arith, c.loop-i-test.true)

pub draw_bits-r-requires : goal.draw_bits-r-requires
draw_bits-r-requires c =
    let k = c.loop-i in
    let w = c.requires.1.0 in
    let u = c.loop-i-test.true in
    rw k.invariant.left.long (
      c.requires.0,
      (
        within-part w k.i _ k.invariant.low (omega (arith, u)) (stretch-room k.invariant _ w.room (omega (arith, u))),
        (c.requires.1.1, (omega (arith, u), omega arith)),
      ),
    )

pub overflow_add-i : goal.overflow_add-i
overflow_add-i c = omega (arith, c.loop-i-test.true)

pub loop-i-smaller : goal.loop-i-smaller
loop-i-smaller c = omega (arith, c.loop-i-test.true)

pub loop-i-preserved : goal.loop-i-preserved
loop-i-preserved c =
    let m = c.min-m in
    let u = c.loop-i-test.true in
    stretch-takes c.loop-i.invariant m.result (omega (arith, u)) c.draw_bits-r.ensures

pub shape_of-mem : goal.shape_of-mem
shape_of-mem c = c.loop-i.invariant.left.long

pub returns : goal.returns
returns c = stretch-ended c.loop-i.invariant c.loop-i-test.false
