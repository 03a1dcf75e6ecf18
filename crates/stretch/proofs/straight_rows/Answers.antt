-- `stretch::straight_rows` meets its contract: what remains of the rectangle, painted on the memory now, is the rectangle painted on the memory at the start.
-- Assumes nothing.
use native.Mathlib.Omega.{arith}
use native.Mathlib.Nat.{mul-zero, mul-le-mul}
use mathlib.Core.Path.{refl}
use Prim.Native.Nat.{◌+◌, ◌^◌}
use Rattle.paint.proofs.Loops.{rows-begin, rows_fill, rows-full, rows-sum}
use Rattle.stretch.proofs.Taken.{can-step, steps_on, walk_begins, walk-place, can-take, can-row}
use Rattle.stretch.proofs.straight_rows.Goals as goal

pub loop-j-init : goal.loop-j-init
loop-j-init c = (rw mul-zero rows-begin, walk_begins c.args.b.now.stretch.rows c.args.y c.requires.0.rows_at)

pub overflow_sub-walk : goal.overflow_sub-walk
overflow_sub-walk c =
    let p = c.requires.0 in
    let k = c.loop-j in
    omega (arith, walk-place c.args.b.now.stretch.rows _ k.invariant.1, (can-take p.can 0 k.j p.wide c.loop-j-test.true).top)

pub overflow_add-y : goal.overflow_add-y
overflow_add-y c = omega (arith, c.requires.0.can.high, c.loop-j-test.true)

pub straight_row-changed-requires : goal.straight_row-changed-requires
straight_row-changed-requires c =
    let p = c.requires in
    let k = c.loop-j in
    rw (k.invariant.0.left.long, walk-place c.args.b.now.stretch.rows _ k.invariant.1) (can-row p.0.can k.j p.0.wide c.loop-j-test.true, (refl, p.1))

pub overflow_add-changed : goal.overflow_add-changed
overflow_add-changed c =
    let k = c.loop-j in
    omega (
      arith,
      rows-sum k.invariant.0 (omega (arith, c.requires.0.can.wide)) (omega (arith, c.requires.0.can.high)) c.loop-j-test.true (c.args.y + k.j)
          c.straight_row-changed.ensures,
    )

pub next-walk-requires : goal.next-walk-requires
next-walk-requires c =
    let p = c.requires.0 in
    let rows = p.can.rows p.wide p.high in
    let k = c.loop-j in
    can-step c.args.y c.args.h k.j rows.0 rows.1 k.invariant.1 c.loop-j-test.true

pub loop-j-preserved : goal.loop-j-preserved
loop-j-preserved c =
    let p = c.requires.0 in
    let rows = p.can.rows p.wide p.high in
    let k = c.loop-j in
    let more = c.loop-j-test.true in (
      rows_fill k.invariant.0 (c.args.y + k.j) more refl c.straight_row-changed.ensures,
      steps_on c.args.y c.args.h k.j rows.0 rows.1 k.invariant.1 more c.next-walk.ensures,
    )

pub overflow_mul-result : goal.overflow_mul-result
overflow_mul-result c =
    omega (arith, mul-le-mul {n₁ = c.args.b.now.w} {m₁ = c.args.h} {n₂ = 2 ^ 13} {m₂ = 2 ^ 13} (omega (arith, c.requires.0.can.wide)) (omega (arith, c.requires.0.can.high)))

pub returns : goal.returns
returns c = rows-full c.loop-j.invariant.0 c.loop-j-test.false
