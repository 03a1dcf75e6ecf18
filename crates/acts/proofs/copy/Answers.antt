-- `acts::copy`: a copy that no row refuses can be painted, in its order.
-- Assumes nothing.
use lib.ListN.{length}
use Rattle.acts.proofs.Laws.{copy-ready}
use Rattle.acts.proofs.copy.Goals as goal

pub copy_rect-tally-requires : goal.copy_rect-tally-requires
copy_rect-tally-requires c = copy-ready c.args.regs (length c.args.mem.now) c.copy_task-task.ensures c.copy_cut-c.ensures c.in_ok-copy_verdict.ensures
