-- What is kept of source and target beside the registers: how many pixels a row has, and for how many whole rows a memory of len bytes has room.
-- Assumes nothing.
use Rattle.std.specs.Prelude.{Bool, cond, [], ◌∷◌, ℕ, ◌+◌, ◌*◌, ◌/◌, ◌%◌, ◌-◌, ◌^◌, eqb}
use Rattle.surface.specs.declared.Surface.{Surface}
use Rattle.surface.specs.Place.{row_pixels}
use Rattle.formats.specs.Format.{target_named, target_of, source_named, source_of}
use Rattle.formats.specs.Step.{packing_of}
use Rattle.registers.specs.declared.Regs.{Regs}
use Rattle.registers.specs.Kept.{one_of}
use Rattle.rooms.specs.declared.Room.{Room}
use Rattle.rooms.specs.declared.Rooms.{Rooms}

abbrev pub no_room : Room
no_room = record { pixels = 0; rows = 0 }

abbrev pub no_rooms : Rooms
no_rooms = record { source = no_room; target = no_room }

-- the whole rows: each has a stride of bytes; in tiles there are 32 to a row of tiles, and each tile has 4,096 bytes
unfoldable pub whole_rows : ℕ → Surface → ℕ
whole_rows len s = cond s.tiled (32 * ((len - s.base) / (4096 * s.stride))) ((len - s.base) / s.stride)

-- a stride of 0 gives no room
unfoldable pub room_of : ℕ → Surface → Room
room_of len s = cond (eqb s.stride 0) no_room (record { pixels = row_pixels s; rows = whole_rows len s })

-- nor do words that name no surface
unfoldable pub target_room : ℕ → ℕ → ℕ → Room
target_room len base format = cond (target_named format) (room_of len (target_of base format)) no_room

-- a source goes by its stride whatever its packing, bits 23:22 of its format: as if they were clear
abbrev pub unpacked : ℕ → ℕ
unpacked format = format % 2 ^ 22

unfoldable pub source_room : ℕ → ℕ → ℕ → Room
source_room len base format = cond (source_named base (unpacked format)) (room_of len (source_of base (unpacked format) 0)) no_room

-- both, as the registers have them
unfoldable pub worked : ℕ → Regs → Rooms
worked len r = record { source = source_room len r.src_base_addr r.src_format; target = target_room len r.dst_base_addr r.dst_format }

-- an offset is that of a register of the target, or of the source
abbrev pub of_target : ℕ → Bool
of_target o = one_of o (0x10 ∷ 0x14 ∷ [])

abbrev pub of_source : ℕ → Bool
of_source o = one_of o (0x34 ∷ 0x54 ∷ [])

-- what is kept after a store at an offset that left these registers: what goes by that register is worked out anew
abbrev pub after : ℕ → ℕ → Regs → Rooms → Rooms
after len o r k =
    cond (of_target o) (record { source = k.source; target = (worked len r).target })
    (cond (of_source o) (record { source = (worked len r).source; target = k.target })
    k)

-- ---- what the code does on the way

-- of a packed source nothing is told
abbrev pub told : ℕ → Rooms → Rooms
told format k = cond (eqb (packing_of format) 0) k (record { source = no_room; target = k.target })

-- the bytes that n rows take up, in tiles as whole rows of tiles
unfoldable pub depth : Surface → ℕ → ℕ
depth s n = cond s.tiled ((n + 31) / 32 * (4096 * s.stride)) (n * s.stride)
