-- `packets::skip` meets its contract: the mask's zeros are passed over at once.
-- Assumes nothing.
use Rattle.std.proofs.Common.{arith}
use Rattle.packets.proofs.SkipLaws.{skip_none, skip_some}
use Rattle.packets.proofs.skip.Goals as goal

pub returns-then-mask-eq0 : goal.returns-then-mask-eq0
returns-then-mask-eq0 c = rw c.if-mask-eq0.true (skip_none 32 c.args.offset)

pub returns : goal.returns
returns c = skip_some 32 c.args.offset c.args.mask (omega arith) (omega arith) (omega arith)
