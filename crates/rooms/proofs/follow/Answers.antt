-- `rooms::follow` meets its contract: in an arm the offset is one of its two.
-- Assumes nothing.
use mathlib.Core.Path.{sym}
use mathlib.Core.List.{[], ◌∷◌}
use Rattle.registers.proofs.Arms.{none}
use Rattle.rooms.proofs.RoomLaws.{after-target, after-source}
use Rattle.rooms.proofs.follow.Goals as goal

pub returns-in-16 : goal.returns-in-16
returns-in-16 c =
    let a = c.args in
    rw c.target_room.ensures (sym (after-target a.len a.offset a.r a.k c.in-16.is))

pub returns-in-52 : goal.returns-in-52
returns-in-52 c =
    let a = c.args in
    rw c.source_room.ensures (sym (after-source a.len a.offset a.r a.k c.in-52.is))

pub returns-in_default : goal.returns-in_default
returns-in_default c = simp (none _ 0x10 (0x14 ∷ []) c.in_default.in_default-own.rest.0.1, none _ 0x34 (0x54 ∷ []) c.in_default.in_default-own.rest.1)
