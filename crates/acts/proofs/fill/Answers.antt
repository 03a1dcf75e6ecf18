-- `acts::fill`: a fill that no row refuses can be painted.
-- Assumes nothing.
use lib.ListN.{length}
use Rattle.acts.proofs.Laws.{fill-ready}
use Rattle.acts.proofs.fill.Goals as goal

pub fill_rect-tally-requires : goal.fill_rect-tally-requires
fill_rect-tally-requires c = fill-ready c.args.regs (length c.args.mem.now) c.fill_task-task.ensures c.fill_cut-c.ensures c.in_ok-fill_verdict.ensures
