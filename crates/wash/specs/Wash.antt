-- Masks over bytes: what each byte of a rectangle becomes, and tables of masks whose rows repeat. Columns count bytes, so that a pixel here is a byte of a row.
-- Assumes nothing.
use Rattle.std.specs.Prelude.{◌≡◌, false, List, ℕ, ◌+◌, ◌-◌, ◌*◌, ◌%◌, ◌<◌, length, get_or}
use Rattle.surface.specs.declared.Surface.{Surface}
use Rattle.surface.specs.Place.{byte_at}
use Rattle.surface.specs.Pixels.{Px, across, rect}
use Rattle.paint.specs.Paint.{changing, summed}
use Rattle.tint.specs.Masking.{masked}
use Rattle.blocks.specs.Blocks.{Put}
use Rattle.wash.specs.declared.Washing.{Washing}

-- the byte at column q.x of row q.y, changed by byte `number q` of two tables of masks
abbrev pub washed : Surface → List ℕ → List ℕ → (Px → ℕ) → List ℕ → Px → ℕ
washed s keep flip number m q = masked (get_or m (byte_at s q.x q.y) 0) (get_or keep (number q) 0) (get_or flip (number q) 0)

-- a row's masks are the `period` bytes from number `first` on, again and again from column x on
abbrev pub in_row : ℕ → ℕ → ℕ → Px → ℕ
in_row first period x q = first + (q.x - x) % period

-- a rectangle's are eight such rows, `pitch` bytes apart, again and again from row y on
abbrev pub in_rows : ℕ → ℕ → ℕ → ℕ → Px → ℕ
in_rows pitch period x y q = (q.y - y) % 8 * pitch + (q.x - x) % period

-- ---- the same by wide tables, whose rows are 160 bytes apart
abbrev pub by_row : Washing → ℕ → ℕ → List ℕ → Px → ℕ
by_row t first x m = washed t.s t.keep t.flip (in_row first (8 * t.s.bytes) x) m

abbrev pub by_rows : Washing → ℕ → ℕ → List ℕ → Px → ℕ
by_rows t x y m = washed t.s t.keep t.flip (in_rows 160 (8 * t.s.bytes) x y) m

-- w pixels of row y from x on have their bytes changed so, by the row of masks from number `first` on; r of the pixels have changed
pub record RowWashed (t : Washing) (first x y w r : ℕ) (m m' : List ℕ) : Type 0 where
  pub put : Put t.s (by_row t first (x * t.s.bytes) m) (x * t.s.bytes) y (w * t.s.bytes) 1 m m'
  pub changes : r ≡ summed (changing t.s m m') (across false x w y)

-- the same of h rows
pub record RowsWashed (t : Washing) (x y w h r : ℕ) (m m' : List ℕ) : Type 0 where
  pub put : Put t.s (by_rows t (x * t.s.bytes) y m) (x * t.s.bytes) y (w * t.s.bytes) h m m'
  pub changes : r ≡ summed (changing t.s m m') (rect false false x y w h)

-- ---- tables whose rows are wide: 160 bytes, so that 128 of them can begin anywhere in a period

-- the first n bytes are some masks, again and again
pub record Repeated (masks : List ℕ) (n : ℕ) (new : List ℕ) : Type 0 where
  pub bytes : (i : ℕ) → i < n → get_or new i 0 ≡ get_or masks (i % length masks) 0

-- the first rows of a table of bytes, made n bytes wide
pub record Widened (table : List ℕ) (rows period n : ℕ) (new : List ℕ) : Type 0 where
  pub bytes : (r i : ℕ) → r < rows → i < n → get_or new (r * 160 + i) 0 ≡ get_or table (r * period + i % period) 0
