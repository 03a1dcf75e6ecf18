-- `rooms::source_room` meets its contract: by whether the words, without packing, name a surface.
-- Assumes nothing.
use native.Mathlib.Omega.{arith}
use Rattle.formats.proofs.FormatLaws.{source-small}
use Rattle.rooms.proofs.source_room.Goals as goal

pub work-requires : goal.work-requires
work-requires c = (rw c.source_of.ensures (source-small _ _ 0 (omega arith)), c.requires)
