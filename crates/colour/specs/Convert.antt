-- A pixel's value in another format. A format is its number of bytes: 1 (an index), 2 (red 5, green 6, blue 5 bits), 3 and 4 (eight bits a
-- channel, blue lowest; 4 has a top byte above them); 0 is mono.
-- Assumes nothing.
use Rattle.std.specs.Prelude.{ℕ, ◌+◌, ◌-◌, ◌*◌, ◌/◌, ◌%◌, ◌^◌, Bool, cond, ◌&&◌, eqb, leb}

-- k bits widened to eight: the bits, and below them their top ones again
abbrev pub repeated : ℕ → ℕ → ℕ
repeated k n = n * 2 ^ (8 - k) + n / 2 ^ (k - (8 - k))

-- 2 bytes to 3, each channel widened
abbrev pub widened : ℕ → ℕ
widened v = repeated 5 (v / 2 ^ 11 % 2 ^ 5) * 2 ^ 16 + repeated 6 (v / 2 ^ 5 % 2 ^ 6) * 2 ^ 8 + repeated 5 (v % 2 ^ 5)

-- 3 or 4 bytes to 2: the low bits of each channel are dropped
abbrev pub narrowed : ℕ → ℕ
narrowed v = v / 2 ^ 16 % 2 ^ 8 / 2 ^ 3 * 2 ^ 11 + v / 2 ^ 8 % 2 ^ 8 / 2 ^ 2 * 2 ^ 5 + v % 2 ^ 8 / 2 ^ 3

-- of 3 or 4 bytes, to another format
abbrev pub lessened : ℕ → ℕ → ℕ
lessened to v = cond (eqb to 2) (narrowed v) (v % 2 ^ 24)

-- equal formats keep all bytes; otherwise the top byte of 4 is neither taken nor set
unfoldable pub converted : ℕ → ℕ → ℕ → ℕ
converted from to v = cond (eqb from to) v (cond (eqb from 2) (widened v) (lessened to v))

-- the formats of several channels
abbrev pub deep : ℕ → Bool
deep f = leb 2 f && leb f 4

-- mono goes to every format of a target, 1 only to 1, and 2, 3 and 4 to each other
unfoldable pub allowed : ℕ → ℕ → Bool
allowed from to = cond (eqb from 0) (leb 1 to && leb to 4) (cond (eqb from 1) (eqb to 1) (deep from && deep to))
