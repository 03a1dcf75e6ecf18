-- The step from one row of a source to the next, and how much data a host blit needs.
-- Assumes nothing.
use Rattle.std.specs.Prelude.{cond, ◌||◌, ℕ, ◌+◌, ◌*◌, ◌/◌, ◌%◌, ◌-◌, ◌^◌, eqb}

-- bits 23:22 of the source's format word
abbrev pub packing_of : ℕ → ℕ
packing_of word = word / 2 ^ 22 % 4

abbrev pub bits_per : ℕ → ℕ
bits_per bytes = cond (eqb bytes 0) 1 (8 * bytes)

-- the row's bytes: ceil(width * bits / 8)
unfoldable pub row_length : ℕ → ℕ → ℕ
row_length bytes width = (width * bits_per bytes + 7) / 8

-- up to a multiple of 1, 2 or 4 under packing 1, 2 or 3
abbrev pub rounded : ℕ → ℕ → ℕ
rounded packing n = cond (eqb packing 1) n (cond (eqb packing 2) ((n + 1) / 2 * 2) ((n + 3) / 4 * 4))

-- packing 0 takes the stride
unfoldable pub step_of : ℕ → ℕ → ℕ → ℕ → ℕ
step_of packing bytes width stride = cond (eqb packing 0) stride (rounded packing (row_length bytes width))

-- the bytes that a host blit needs, and the words that bring them
unfoldable pub data_bytes : ℕ → ℕ → ℕ → ℕ → ℕ
data_bytes bytes step width height = cond (eqb width 0 || eqb height 0) 0 ((height - 1) * step + row_length bytes width)

unfoldable pub data_words : ℕ → ℕ → ℕ → ℕ → ℕ
data_words bytes step width height = (data_bytes bytes step width height + 3) / 4
