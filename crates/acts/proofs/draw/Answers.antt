-- `acts::draw`: a line that no row refuses can be drawn.
-- Assumes nothing.
use lib.ListN.{length}
use Rattle.acts.proofs.Laws.{line-ready}
use Rattle.acts.proofs.draw.Goals as goal

pub paint_line-drawn-requires : goal.paint_line-drawn-requires
paint_line-drawn-requires c =
    line-ready c.args.regs (length c.args.mem.now) c.decode_ink-ink.ensures c.decode_clip-clip.ensures c.decode_line-l.ensures c.in_ok-line_verdict.ensures
