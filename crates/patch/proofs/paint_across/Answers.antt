-- `patch::paint_across` meets its contract: what remains of the row, painted on the memory now, is the row painted on the memory at the start.
-- Assumes nothing.
use Rattle.paint.proofs.Loops.{row-begins, row_room, row-goes-on, row-ended}
use Rattle.sweep.proofs.TaskLaws.{row-pixel}
use Rattle.patch.proofs.RowLaws.{pixel-given}
use Rattle.patch.proofs.paint_across.Goals as goal

pub loop-i-init : goal.loop-i-init
loop-i-init c = row-begins

pub put_source-r-requires : goal.put_source-r-requires
put_source-r-requires c =
    let p = c.requires in
    let left = c.loop-i.invariant in
    let more = c.loop-i-test.true in
    record { on = (row-pixel p left more c.place-x.ensures).0; room = row_room left p.room more }

pub loop-i-preserved : goal.loop-i-preserved
loop-i-preserved c =
    let k = c.loop-i in
    let a = c.args in
    let x = c.place-x.result in
    row-goes-on k.invariant x c.loop-i-test.true c.place-x.ensures c.put_source-r.ensures
    (pixel-given a.t a.values k.mem a.bits x a.y c.pattern_column-column.ensures.0 c.bit_of.ensures c.source_at-s.ensures)

pub returns : goal.returns
returns c = row-ended c.loop-i.invariant c.loop-i-test.false
