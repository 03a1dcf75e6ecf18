-- Positions of 13 signed bits: as a signed number, as a natural number with the origin at 16384, and after a step that wraps within the 13 bits.
-- Assumes nothing.
use Rattle.std.specs.Prelude.{ℕ, ◌+◌, ◌*◌, ◌/◌, ◌%◌, ◌^◌, Bool, cond, ltb, ℤ, pos, ◌-ℤ◌}

-- the low 13 bits, the topmost of them being the sign
unfoldable pub signed_of : ℕ → ℤ
signed_of raw = cond (ltb (raw % 8192) 4096) (pos (raw % 8192)) (pos (raw % 8192) -ℤ pos 8192)

-- the same position as a natural: from origin - 4096 up to origin + 4095
abbrev pub placed : ℕ → ℕ
placed raw = (raw % 8192 + 4096) % 8192 + 12288

-- a position after a step of a size, wrapped to its 13 bits
abbrev pub moved : ℕ → ℕ → ℕ
moved raw size = (raw % 8192 + size % 8192) % 8192

-- the step only where it is asked for
abbrev pub stepped : Bool → ℕ → ℕ → ℕ
stepped on raw size = cond on (moved raw size) (raw % 8192)

-- the positions x in 12:0 and y in 28:16 of a word, each stepped by the width and the height that a size has at the same place
unfoldable pub stepped_xy : ℕ → ℕ → Bool → Bool → ℕ
stepped_xy xy size across down = stepped across xy size + stepped down (xy / 2 ^ 16) (size / 2 ^ 16) * 2 ^ 16
