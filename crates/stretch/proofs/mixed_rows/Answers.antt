-- `stretch::mixed_rows` meets its contract: what remains of the rectangle, painted on the memory now, is the rectangle painted on the memory at the start.
-- Assumes nothing.
use native.Mathlib.Omega.{arith}
use mathlib.Core.Path.{refl}
use Prim.Native.Nat.{◌+◌}
use Rattle.paint.proofs.Loops.{rows-begin, rows-room, rows-go-on, rows-ended}
use Rattle.stretch.proofs.Taken.{can-step, steps_on, walk_begins, walk-place, can-take, can-row}
use Rattle.stretch.proofs.mixed_rows.Goals as goal

pub loop-j-init : goal.loop-j-init
loop-j-init c = (rows-begin, walk_begins c.args.b.now.band.stretch.rows c.args.y c.requires.rows_at)

pub overflow_sub-walk : goal.overflow_sub-walk
overflow_sub-walk c =
    let p = c.requires in
    let k = c.loop-j in
    omega (arith, walk-place c.args.b.now.band.stretch.rows _ k.invariant.1, (can-take p.can 0 k.j p.wide c.loop-j-test.true).top)

pub overflow_add-y : goal.overflow_add-y
overflow_add-y c = omega (arith, c.requires.can.high, c.loop-j-test.true)

pub mixed_row-n-requires : goal.mixed_row-n-requires
mixed_row-n-requires c =
    let p = c.requires in
    let k = c.loop-j in
    let more = c.loop-j-test.true in
    let room = rows-room k.invariant.0 (omega (arith, p.can.wide)) (omega (arith, p.can.high)) more in
    rw (k.invariant.0.left.long, walk-place c.args.b.now.band.stretch.rows _ k.invariant.1) ((can-row p.can k.j p.wide more, room), refl)

pub next-walk-requires : goal.next-walk-requires
next-walk-requires c =
    let p = c.requires in
    let rows = p.can.rows p.wide p.high in
    let k = c.loop-j in
    can-step c.args.y c.args.h k.j rows.0 rows.1 k.invariant.1 c.loop-j-test.true

pub loop-j-preserved : goal.loop-j-preserved
loop-j-preserved c =
    let p = c.requires in
    let rows = p.can.rows p.wide p.high in
    let k = c.loop-j in
    let more = c.loop-j-test.true in (
      rows-go-on k.invariant.0 (c.args.y + k.j) more refl c.mixed_row-n.ensures,
      steps_on c.args.y c.args.h k.j rows.0 rows.1 k.invariant.1 more c.next-walk.ensures,
    )

pub returns : goal.returns
returns c = rows-ended c.loop-j.invariant.0 c.loop-j-test.false
