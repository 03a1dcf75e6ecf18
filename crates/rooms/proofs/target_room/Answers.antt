-- `rooms::target_room` meets its contract: by whether the words name a surface.
-- Assumes nothing.
use Rattle.formats.proofs.FormatLaws.{target_small}
use Rattle.rooms.proofs.target_room.Goals as goal

pub work-requires : goal.work-requires
work-requires c = (rw c.target_of.ensures (target_small c.args.base c.args.format), c.requires)
