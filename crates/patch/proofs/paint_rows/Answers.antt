-- `patch::paint_rows` meets its contract: what remains of the rectangle, painted on the memory now, is the rectangle painted on the memory at the start.
-- Assumes nothing.
use mathlib.Core.Path.{◌∙◌}
use Rattle.paint.specs.Paint.{tallied}
use Rattle.paint.proofs.Loops.{rows-begin, rows-go-on, rows-ended}
use Rattle.sweep.proofs.TaskLaws.{can-row}
use Rattle.patch.proofs.RowLaws.{row_same}
use Rattle.patch.proofs.paint_rows.Goals as goal

pub loop-j-init : goal.loop-j-init
loop-j-init c = rows-begin

pub paint_across-n-requires : goal.paint_across-n-requires
paint_across-n-requires c =
    can-row c.requires c.loop-j.invariant c.loop-j-test.true c.place-y.ensures

pub loop-j-preserved : goal.loop-j-preserved
loop-j-preserved c =
    let values = c.row_values-values in
    let k = c.loop-j in
    let a = c.args in
    let y = c.place-y.result in
    rows-go-on k.invariant y c.loop-j-test.true c.place-y.ensures
    (c.paint_across-n.ensures
    ∙ row_same a.t a.pattern values.result c.pattern_byte-bits.ensures.0 values.ensures a.to_left a.t.x a.w y c.pattern_row-row.ensures.0 (tallied k.mem k.n))

pub returns : goal.returns
returns c = rows-ended c.loop-j.invariant c.loop-j-test.false
