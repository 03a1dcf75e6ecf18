-- `rect::move_rows` meets its contract: the rows moved so far have the source's bytes as they were at the start, and their pixels that changed are counted.
-- Assumes nothing.
use native.Mathlib.Omega.{arith}
use Rattle.paint.proofs.Turns.{nth_in}
use Rattle.rect.proofs.Moves.{row-moves, rows_none, rows_fit, rows_next, rows_all}
use Rattle.rect.proofs.move_rows.Goals as goal

pub loop-j-init : goal.loop-j-init
loop-j-init c = rows_none c.args.mem.now

pub move_row-r-requires : goal.move_row-r-requires
move_row-r-requires c =
    let a = c.args in
    let k = c.loop-j in
    let y = c.place-y.result in
    let e = c.place-y.ensures in
    let rows = nth_in a.to_top a.t.y a.h k.j c.loop-j-test.true in
    rw k.invariant.given.long (row-moves c.requires y (omega arith) (omega arith))

pub overflow_add-r : goal.overflow_add-r
overflow_add-r c = omega (arith, rows_fit c.requires c.loop-j.invariant c.place-y.result c.loop-j-test.true c.place-y.ensures c.move_row-r.ensures.1)

pub loop-j-preserved : goal.loop-j-preserved
loop-j-preserved c = rows_next c.requires c.loop-j.invariant c.place-y.result c.loop-j-test.true c.place-y.ensures c.move_row-r.ensures.1 c.move_row-r.ensures.0

pub shape_of-mem : goal.shape_of-mem
shape_of-mem c = c.loop-j.invariant.given.long

pub returns : goal.returns
returns c = rows_all c.requires c.loop-j.invariant c.loop-j-test.false
