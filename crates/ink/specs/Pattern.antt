-- The pattern: 256 bytes, as eight rows of eight pixels in the target's format, or mono, one byte a row and column 0 in bit 7.
-- Assumes nothing.
use Rattle.std.specs.Prelude.{◌≡◌, cond, List, ℕ, ◌+◌, ◌*◌, ◌-◌, ◌/◌, ◌%◌, ◌^◌, ◌<◌, ◌≤◌, eqb, length, get_or}
use Rattle.surface.specs.Place.{read_bytes}
use Rattle.ink.specs.declared.Ink.{Ink}

-- the pattern's column and row for a pixel: moved by the offsets, modulo 8, and row 0 where that is forced
abbrev pub pattern_column : Ink → ℕ → ℕ
pattern_column ink x = (x + ink.pat_x) % 8

abbrev pub pattern_row : Ink → ℕ → ℕ
pattern_row ink y = cond ink.forced 0 ((y + ink.pat_y) % 8)

-- the bit of a mono pattern
unfoldable pub pattern_bit : List ℕ → ℕ → ℕ → ℕ
pattern_bit pattern column row = get_or pattern row 0 / 2 ^ (7 - column) % 2

-- the pixel of a colour pattern: packed from its first byte, low byte first
unfoldable pub pattern_pixel : ℕ → List ℕ → ℕ → ℕ → ℕ
pattern_pixel bytes pattern column row = read_bytes pattern (λ k. (row * 8 + column) * bytes + k) 0 bytes

-- the pattern at a column and a row of its own, and at a pixel
unfoldable pub pattern_in : Ink → List ℕ → ℕ → ℕ → ℕ
pattern_in ink pattern column row =
    cond ink.mono
    (cond (eqb (pattern_bit pattern column row) 1) ink.fore ink.back)
    (pattern_pixel ink.target.bytes pattern column row)

abbrev pub pattern_value : Ink → List ℕ → ℕ → ℕ → ℕ
pattern_value ink pattern x y = pattern_in ink pattern (pattern_column ink x) (pattern_row ink y)

-- ---- what functions give

-- the eight values of a row of the pattern
pub record RowOf (ink : Ink) (pattern : List ℕ) (row : ℕ) (values : List ℕ) : Type 0 where
  pub at : (c : ℕ) → c < 8 → get_or values c 0 ≡ pattern_in ink pattern c row
  pub long : length values ≡ 8

-- 64 values, of which number k is that at pixel (x + k % 8, y + k / 8) in the first rows of eight, and 0 after them
pub record ValuesOf (ink : Ink) (pattern : List ℕ) (x y rows : ℕ) (values : List ℕ) : Type 0 where
  pub at : (k : ℕ) → k < rows * 8 → get_or values k 0 ≡ pattern_value ink pattern (x + k % 8) (y + k / 8)
  pub rest : (k : ℕ) → rows * 8 ≤ k → get_or values k 0 ≡ 0
  pub long : length values ≡ 64
