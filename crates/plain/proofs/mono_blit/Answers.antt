-- `plain::mono_blit` meets its contract: each turn paints the next row.
-- Assumes nothing.
use Rattle.plain.proofs.Glyphs.{done-long, rows-begin, rows-room, rows_take, rows-ended}
use Rattle.plain.proofs.mono_blit.Goals as goal

pub loop-j-init : goal.loop-j-init
loop-j-init c = rows-begin

pub mono_line-r-requires : goal.mono_line-r-requires
mono_line-r-requires c =
    let now = c.loop-j.invariant in
    let p = c.requires in
    let more = c.loop-j-test.true in
    rw (done-long now.done) (p.0, (p.1, (more, rows-room now p.0.rows.sizes more)))

pub loop-j-preserved : goal.loop-j-preserved
loop-j-preserved c = rows_take c.loop-j.invariant c.loop-j-test.true c.mono_line-r.ensures

pub shape_of-mem : goal.shape_of-mem
shape_of-mem c = done-long c.loop-j.invariant.done

pub returns : goal.returns
returns c = rows-ended c.loop-j.invariant c.loop-j-test.false
