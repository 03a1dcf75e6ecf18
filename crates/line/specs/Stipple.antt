-- The stipple: the word lineStyle (repeat count 7:0, size 12:8, repeat position 23:16, bit number 28:24), and how it goes on from point to point.
-- Assumes nothing.
use Rattle.std.specs.Prelude.{cond, ℕ, zero, suc, ◌+◌, ◌*◌, ◌/◌, ◌%◌, ◌^◌, ltb}
use Rattle.line.specs.declared.Pen.{Pen}

abbrev pub repeat_count : ℕ → ℕ
repeat_count style = style % 0x100

abbrev pub size : ℕ → ℕ
size style = style / 0x100 % 0x20

abbrev pub position : ℕ → ℕ
position style = style / 0x10000 % 0x100

abbrev pub bit_number : ℕ → ℕ
bit_number style = style / 0x1000000 % 0x20

-- the word of the four
abbrev pub style_of : ℕ → ℕ → ℕ → ℕ → ℕ
style_of count size position bit = count + size * 0x100 + position * 0x10000 + bit * 0x1000000

-- the word after a point: the position goes up by one if it is below the count; else it becomes 0, and the bit number goes up by one if it is
-- below the size, else to 0
unfoldable pub stepped : ℕ → ℕ
stepped style =
    cond (ltb (position style) (repeat_count style))
    (style_of (repeat_count style) (size style) (position style + 1) (bit_number style))
    (style_of (repeat_count style) (size style) 0 (cond (ltb (bit_number style) (size style)) (bit_number style + 1) 0))

-- the bit of lineStipple that the word names; a line that is not stippled has 1 throughout
unfoldable pub stipple_bit : Pen → ℕ → ℕ
stipple_bit pen style = cond pen.stippled (pen.stipple / 2 ^ bit_number style % 2) 1

-- the word after a point of a line, stippled or not, and after n of them
unfoldable pub after : Pen → ℕ → ℕ
after pen style = cond pen.stippled (stepped style) style

unfoldable pub style_after : Pen → ℕ → ℕ → ℕ
style_after pen zero style = style
style_after pen (suc n) style = style_after pen n (after pen style)
