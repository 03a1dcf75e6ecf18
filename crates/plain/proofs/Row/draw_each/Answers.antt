-- `plain::Row::draw_each` meets its contract: each turn draws the next pixel of the stretch, with its source.
-- Assumes nothing.
use native.Mathlib.Omega.{arith}
use Rattle.plain.proofs.Stretch.{here-small}
use Rattle.plain.proofs.Parts.{stretch-begins, stretch-room, stretch-goes-on, stretch-ended}
use Rattle.plain.proofs.Row.draw_each.Goals as goal

pub loop-i-init : goal.loop-i-init
loop-i-init g c = stretch-begins

pub last_column-requires : goal.last_column-requires
last_column-requires g c = (c.requires.0.rows.sizes.bytes, omega (arith, c.requires.0.rows.sizes.width, c.requires.1.0.past))

pub overflow_add-t : goal.overflow_add-t
overflow_add-t g c =
    omega (arith, c.last_column.ensures, here-small c.requires.0.rows (omega (arith, c.loop-i-test.true, c.requires.1.0.past)) (c.requires.1.0.here c.loop-i.i c.loop-i.invariant.low c.loop-i-test.true))

pub overflow_sub-t : goal.overflow_sub-t
overflow_sub-t g c = omega (arith, c.last_column.ensures, (c.requires.1.0.here c.loop-i.i c.loop-i.invariant.low c.loop-i-test.true).low)

pub value_of-v-requires : goal.value_of-v-requires
value_of-v-requires g c = (c.requires.0.rows.sizes.bytes, omega (arith, c.last_column.ensures, (c.requires.1.0.here c.loop-i.i c.loop-i.invariant.low c.loop-i-test.true).high))

pub draw_pixel-r-requires : goal.draw_pixel-r-requires
draw_pixel-r-requires g c =
    let now = c.loop-i.invariant in
    let w = c.requires.1.0 in
    rw now.left.long
    (c.requires.0, (omega (arith, c.loop-i-test.true, w.past), (w.row, (stretch-room now 1 w.room (omega (arith, c.loop-i-test.true)), c.plain_source-s.ensures))))

pub loop-i-preserved : goal.loop-i-preserved
loop-i-preserved g c =
    let v = c.value_of-v in
    stretch-goes-on c.loop-i.invariant v.result c.loop-i-test.true (rw (c.last_column.ensures, (c.requires.1.0.here c.loop-i.i c.loop-i.invariant.low c.loop-i-test.true).byte) at v.ensures)
    c.draw_pixel-r.ensures

pub shape_of-mem : goal.shape_of-mem
shape_of-mem g c = c.loop-i.invariant.left.long

pub returns : goal.returns
returns g c = stretch-ended c.loop-i.invariant c.loop-i-test.false
