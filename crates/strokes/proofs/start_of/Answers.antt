-- `strokes::start_of` meets its contract.
-- Assumes nothing.
use Rattle.std.proofs.Common.{refl}
use Rattle.line.proofs.TreadLaws.{tread-start}
use Rattle.strokes.proofs.start_of.Goals as goal

pub returns : goal.returns
returns c = (refl, rw c.long_side.ensures (tread-start _ _))
