-- `sweep::paint_across` meets its contract: what remains of the row, painted on the memory now, is the row painted on the memory at the start.
-- Assumes nothing.
use mathlib.Core.Path.{◌∙◌}
use Rattle.surface.specs.Pixels.{px}
use Rattle.surface.proofs.Run.{in-rows, pixel-held, read-run}
use Rattle.paint.specs.Paint.{tallied}
use Rattle.paint.proofs.Turns.{dab-at}
use Rattle.paint.proofs.Loops.{row-begins, row_room, row-goes-on, row-ended}
use Rattle.sweep.proofs.TaskLaws.{row-pixel, pixel-given}
use Rattle.sweep.proofs.paint_across.Goals as goal

pub loop-i-init : goal.loop-i-init
loop-i-init c = row-begins

pub get_bytes-old-requires : goal.get_bytes-old-requires
get_bytes-old-requires c =
    pixel-held (in-rows c.args.b.now.flat.target) (row-pixel c.requires c.loop-i.invariant c.loop-i-test.true c.place-x.ensures).0 _ c.place_in_rows-at.ensures

pub put_value_at-r-requires : goal.put_value_at-r-requires
put_value_at-r-requires c =
    let left = c.loop-i.invariant in
    let more = c.loop-i-test.true in
    (pixel-held (in-rows c.args.b.now.flat.target) (row-pixel c.requires left more c.place-x.ensures).0 _ c.place_in_rows-at.ensures, row_room left c.requires.room more)

pub loop-i-preserved : goal.loop-i-preserved
loop-i-preserved c =
    let k = c.loop-i in
    let a = c.args in
    let t = a.b.now.task in
    let piece = in-rows a.b.now.flat.target in
    let x = c.place-x.result in
    let at = c.place_in_rows-at in
    row-goes-on k.invariant x c.loop-i-test.true c.place-x.ensures
    (c.put_value_at-r.ensures ∙ dab-at t.ink.target piece (px x a.y) at.result _ (tallied k.mem k.r) at.ensures)
    (pixel-given t a.quads.now k.mem a.bits x a.y c.pattern_column-column.ensures.0 c.bit_of.ensures c.source_at-s.ensures
    (c.get_bytes-old.ensures ∙ read-run t.ink.target piece x a.y at.result at.ensures k.mem) c.quad_at-k.ensures.0 c.merge-v.ensures)

pub returns : goal.returns
returns c = row-ended c.loop-i.invariant c.loop-i-test.false
