-- `acts::stretch`: a stretch that no row refuses can be painted.
-- Assumes nothing.
use lib.ListN.{length}
use Rattle.acts.proofs.Laws.{stretch-ready}
use Rattle.acts.proofs.stretch.Goals as goal

pub paint_stretch-tally-requires : goal.paint_stretch-tally-requires
paint_stretch-tally-requires c = stretch-ready c.args.regs (length c.args.mem.now) c.decode_stretch-t.ensures c.fill_cut-c.ensures c.in_ok-stretch_verdict.ensures
