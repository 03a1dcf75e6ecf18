-- Where the bytes of a pixel are, how a pixel is read and written, and when it is on its surface.
-- A surface is its base, its stride, its bytes per pixel and whether it is tiled; 0 bytes per pixel is mono, one bit a pixel.
-- In rows the stride is the bytes from row to row. In tiles of 128 bytes by 32 rows, each laid row by row, it is the tiles from one row of tiles to the next.
-- Assumes nothing.
use Rattle.std.specs.Prelude.{Bool, true, false, cond, not, ◌&&◌, ◌||◌, List, ℕ, zero, suc, ◌+◌, ◌*◌, ◌/◌, ◌%◌, ◌-◌, ◌^◌, eqb, ltb, get_or, set}
use Rattle.surface.specs.declared.Surface.{Surface}

-- a surface in rows
abbrev pub surface : ℕ → ℕ → ℕ → Surface
surface base stride bytes = record { base = base; stride = stride; bytes = bytes; tiled = false }

-- both, or neither
abbrev pub alike : Bool → Bool → Bool
alike a b = (a && b) || (not a && not b)

-- the same base, step, format and layout
abbrev pub same_surface : Surface → Surface → Bool
same_surface a b = eqb a.base b.base && (eqb a.stride b.stride && (eqb a.bytes b.bytes && alike a.tiled b.tiled))

-- ---- the layout, by which every address is worked out. What goes row by row or tile by tile knows besides how far apart rows are, and a tile's sides

-- how many bytes a row has
unfoldable pub row_bytes : Surface → ℕ
row_bytes s = cond s.tiled (128 * s.stride) s.stride

-- the address of byte number `column` of row y
unfoldable pub byte_at : Surface → ℕ → ℕ → ℕ
byte_at s column y = cond s.tiled
    (s.base + (y / 32 * s.stride + column / 128) * 4096 + (y % 32 * 128 + column % 128))
    (s.base + y * s.stride + column)

-- ---- a pixel's bytes

-- byte k of pixel (x, y) of a colour surface
unfoldable pub byte_of : Surface → ℕ → ℕ → ℕ → ℕ
byte_of s x y k = byte_at s (x * s.bytes + k) y

-- the number in the n bytes at the addresses `at k`, `at (k + 1)`, .., low byte first
unfoldable pub read_bytes : List ℕ → (ℕ → ℕ) → ℕ → ℕ → ℕ
read_bytes m at k zero = 0
read_bytes m at k (suc n) = get_or m (at k) 0 + 256 * read_bytes m at (suc k) n

-- the memory with the number v in those bytes
unfoldable pub write_bytes : (ℕ → ℕ) → ℕ → ℕ → ℕ → List ℕ → List ℕ
write_bytes at k zero v m = m
write_bytes at k (suc n) v m = write_bytes at (suc k) n (v / 256) (set m (at k) (v % 256))

unfoldable pub read_px : List ℕ → Surface → ℕ → ℕ → ℕ
read_px m s x y = read_bytes m (byte_of s x y) 0 s.bytes

unfoldable pub write_px : List ℕ → Surface → ℕ → ℕ → ℕ → List ℕ
write_px m s x y v = write_bytes (byte_of s x y) 0 s.bytes v m

-- 1 for what is so, 0 for what is not
abbrev pub one : Bool → ℕ
one b = cond b 1 0

-- the n bytes at those addresses are not the same in two memories; and the bytes of a pixel, all of them
abbrev pub differ : (ℕ → ℕ) → ℕ → List ℕ → List ℕ → Bool
differ at n m m' = not (eqb (read_bytes m at 0 n) (read_bytes m' at 0 n))

abbrev pub differs : Surface → ℕ → ℕ → List ℕ → List ℕ → Bool
differs s x y m m' = not (eqb (read_px m s x y) (read_px m' s x y))

-- three addresses by their number
abbrev pub three : ℕ → ℕ → ℕ → ℕ → ℕ
three a b c k = cond (eqb k 0) a (cond (eqb k 1) b c)

-- pixel (x, y) of a mono source: bit 7 - (x mod 8) of byte floor(x / 8) of its row
unfoldable pub mono_bit : List ℕ → Surface → ℕ → ℕ → ℕ
mono_bit m s x y = get_or m (byte_at s (x / 8) y) 0 / 2 ^ (7 - x % 8) % 2

-- ---- on the surface

-- how many pixels a row has
unfoldable pub row_pixels : Surface → ℕ
row_pixels s = cond (eqb s.bytes 0) (8 * row_bytes s) (row_bytes s / s.bytes)

-- the bytes of its row that pixel x lies in: the first, and how many
unfoldable pub first_byte : Surface → ℕ → ℕ
first_byte s x = cond (eqb s.bytes 0) (x / 8) (x * s.bytes)

unfoldable pub byte_count : Surface → ℕ
byte_count s = cond (eqb s.bytes 0) 1 s.bytes

-- n bytes of row y from byte `column` on are in a memory of len bytes
unfoldable pub in_memory : Surface → ℕ → ℕ → ℕ → ℕ → Bool
in_memory s len column zero y = true
in_memory s len column (suc n) y = ltb (byte_at s column y) len && in_memory s len (suc column) n y

-- the row has pixel x, and all its bytes are in memory
unfoldable pub on_surface : Surface → ℕ → ℕ → ℕ → Bool
on_surface s len x y = ltb x (row_pixels s) && in_memory s len (first_byte s x) (byte_count s) y
