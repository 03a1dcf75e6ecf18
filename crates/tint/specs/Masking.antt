-- Masks: a fill without a target key makes of a pixel its old value with some bits kept and some turned over. Tables of masks, in bytes, and what they give.
-- Assumes nothing.
use Rattle.std.specs.Prelude.{◌≡◌, Bool, true, false, cond, List, map, ℕ, zero, suc, ◌+◌, ◌-◌, ◌*◌, ◌/◌, ◌%◌, ◌^◌, ◌<◌, ◌≤◌, eqb, ltb, length, get_or, set}
use Rattle.std.proofs.Math.Option.{Option, none, some}
use Rattle.std.specs.Int.Bits.{bit_and, bit_xor}
use Rattle.raster.specs.Rop.{rop_bits}
use Rattle.surface.specs.declared.Surface.{Surface}
use Rattle.surface.specs.Place.{read_bytes, read_px}
use Rattle.surface.specs.Pixels.{Px}
use Rattle.ink.specs.declared.Ink.{Ink}
use Rattle.paint.specs.Paint.{state, Touch, touch, paint}
use Rattle.paint.specs.Mix.{fill_source}
use Rattle.ink.specs.Pattern.{pattern_column, pattern_row, pattern_bit, pattern_in}
use Rattle.tint.specs.declared.Mask.{Mask}

-- all the bits of a pixel
abbrev pub ones : ℕ
ones = 2 ^ 32 - 1

-- the old pixel: the bits of `keep` kept, those of `flip` turned over
unfoldable pub masked : ℕ → ℕ → ℕ → ℕ
masked old keep flip = bit_xor (bit_and old keep) flip

-- what a mask gives the pixel: nothing where it adds no pixel to the count
unfoldable pub by_mask : ℕ → ℕ → ℕ → ℕ → Option ℕ
by_mask keep flip adds old = cond (eqb adds 0) none (some (masked old keep flip))

-- a mask of its three numbers
abbrev pub mask : ℕ → ℕ → ℕ → Mask
mask keep flip adds = record { keep = keep; flip = flip; adds = adds }

-- the mask by what becomes of a 1 and of a 0 at each bit; a pixel that is left keeps all its bits, and is not counted
abbrev pub mask_by : Bool → ℕ → ℕ → Mask
mask_by true from_ones from_zeros = mask ones 0 0
mask_by false from_ones from_zeros = mask (bit_xor from_ones from_zeros) from_zeros 1

-- what a fill without a target key makes of an old pixel where the pattern has this value
abbrev pub becomes : Ink → ℕ → ℕ → ℕ
becomes ink value old = rop_bits 32 ink.rop0 value ink.fore old

-- its mask there, for a pattern that has this bit if it is mono
unfoldable pub mask_for : Ink → ℕ → ℕ → Mask
mask_for ink value bit = mask_by (fill_source ink bit).left (becomes ink value ones) (becomes ink value 0)

-- the mask at a column and a row of the pattern
abbrev pub mask_of : Ink → List ℕ → ℕ → ℕ → Mask
mask_of ink pattern column row = mask_for ink (pattern_in ink pattern column row) (pattern_bit pattern column row)

-- ---- masks as bytes, in a table for pixels of n bytes

-- mask number k of the table
abbrev pub mask_in : ℕ → List ℕ → ℕ → ℕ
mask_in n table k = read_bytes table (λ j. k * n + j) 0 n

-- what pixel p is given by the eight masks from number `first` on, the first of them at column x
unfoldable pub tinting : Surface → List ℕ → List ℕ → List ℕ → ℕ → ℕ → List ℕ → Px → Option ℕ
tinting s keep flip adds first x now p =
    by_mask (mask_in s.bytes keep (first + (p.x - x) % 8)) (mask_in s.bytes flip (first + (p.x - x) % 8)) (get_or adds (first + (p.x - x) % 8) 0)
    (read_px now s p.x p.y)

-- each pixel in its turn
abbrev pub tintings : Surface → List ℕ → List ℕ → List ℕ → ℕ → ℕ → List Px → List Touch
tintings s keep flip adds first x ps = map (λ p. touch p (λ now. tinting s keep flip adds first x now p)) ps

-- the same of a rectangle from (x, y) on, whose rows have their eight masks by eights
abbrev pub down_tint : Surface → List ℕ → List ℕ → List ℕ → ℕ → ℕ → List ℕ → Px → Option ℕ
down_tint s keep flip adds x y now p = tinting s keep flip adds ((p.y - y) % 8 * 8) x now p

abbrev pub down_tints : Surface → List ℕ → List ℕ → List ℕ → ℕ → ℕ → List Px → List Touch
down_tints s keep flip adds x y ps = map (λ p. touch p (λ now. down_tint s keep flip adds x y now p)) ps

-- the memory with n bytes from `at` on changed by the tables' bytes from `from` on
unfoldable pub blended : List ℕ → List ℕ → ℕ → ℕ → ℕ → List ℕ → List ℕ
blended keep flip from at zero m = m
blended keep flip from at (suc n) m = blended keep flip (from + 1) (at + 1) n (set m at (masked (get_or m at 0) (get_or keep from 0) (get_or flip from 0)))

-- a memory is what painting leaves, and so many pixels were written; how many of them changed is not said
abbrev pub Painted : Surface → List Touch → List ℕ → List ℕ → ℕ → Type 0
Painted s ts m m' count = (changed : ℕ) × (state m' count changed ≡ paint s ts (state m 0 0))

-- how many rows of masks h rows of pixels want: they repeat after eight
unfoldable pub mask_rows : ℕ → ℕ
mask_rows h = cond (ltb h 8) h 8

-- ---- what functions give

-- the mask of pixel (x + k % 8, y + k / 8)
abbrev pub mask_here : Ink → List ℕ → ℕ → ℕ → ℕ → Mask
mask_here ink pattern x y k = mask_of ink pattern (pattern_column ink (x + k % 8)) (pattern_row ink (y + k / 8))

-- a table for pixels of n bytes whose first masks have become these, so many; the bytes after them are as they were, and bytes stay bytes
pub record Table (n many : ℕ) (masks : ℕ → ℕ) (old new : List ℕ) : Type 0 where
  pub made : (k : ℕ) → k < many → mask_in n new k ≡ masks k % 256 ^ n
  pub rest : (a : ℕ) → many * n ≤ a → get_or new a 0 ≡ get_or old a 0
  pub long : length new ≡ length old
  pub bytes : ((a : ℕ) → get_or old a 0 < 256) → (a : ℕ) → get_or new a 0 < 256

-- the same of a table with a number for each pixel
pub record Numbers (many : ℕ) (numbers : ℕ → ℕ) (old new : List ℕ) : Type 0 where
  pub made : (k : ℕ) → k < many → get_or new k 0 ≡ numbers k
  pub rest : (k : ℕ) → many ≤ k → get_or new k 0 ≡ get_or old k 0
  pub long : length new ≡ length old

-- the tables of masks, in their three parts
pub record Tables : Type 0 where
  pub keep : List ℕ
  pub flip : List ℕ
  pub adds : List ℕ

abbrev pub tables : List ℕ → List ℕ → List ℕ → Tables
tables keep flip adds = record { keep = keep; flip = flip; adds = adds }

-- tables whose first masks have become those of pixels from (x, y) on, so many in rows of eight
pub record MadeOf (ink : Ink) (pattern : List ℕ) (x y many : ℕ) (old new : Tables) : Type 0 where
  pub keep : Table ink.target.bytes many (λ k. (mask_here ink pattern x y k).keep) old.keep new.keep
  pub flip : Table ink.target.bytes many (λ k. (mask_here ink pattern x y k).flip) old.flip new.flip
  pub adds : Numbers many (λ k. (mask_here ink pattern x y k).adds) old.adds new.adds

-- the first rows of them
abbrev pub MasksOf : Ink → List ℕ → ℕ → ℕ → ℕ → Tables → Tables → Type 0
MasksOf ink pattern x y rows old new = MadeOf ink pattern x y (rows * 8) old new
