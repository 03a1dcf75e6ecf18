-- `drips::mark_data` meets its contract: pixel by pixel, or, where none can be left, row by row.
-- Assumes nothing.
use Rattle.drips.proofs.RowLaws.{NoneLeft, colour-kept, solid-kept, rows-marks}
use Rattle.drips.proofs.mark_data.Goals.{else-feed-eq0-via-then-feed-eq0+else-ink, else-feed-eq0-via-else-feed-eq0}
use Rattle.drips.proofs.mark_data.Goals as goal

pub returns : goal.returns
returns c =
    let a = c.args in
    let kept : NoneLeft a.ink a.feed =
    elim c.else-feed-eq0.branch [
      | else-feed-eq0-via-then-feed-eq0+else-ink w ↦ solid-kept a.ink a.feed w.if-ink.false
      | else-feed-eq0-via-else-feed-eq0 w ↦ colour-kept a.ink a.feed w.if-feed-eq0.false
    ] in
    rows-marks a.ink a.c a.feed c.requires.waits.opened.rows kept a.words.now a.last a.taken a.marks.now c.mark_rows.ensures
