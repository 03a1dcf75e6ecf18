-- What functions of this crate ask for. No promise rests on it.
-- Assumes nothing.
use Rattle.std.specs.Prelude.{◌≡◌, false, List, ℕ, ◌+◌, ◌*◌, ◌%◌, ◌^◌, ◌<◌, ◌≤◌, length, get_or}
use Rattle.surface.specs.declared.Surface.{Surface}
use Rattle.surface.specs.Asked.{Colour}
use Rattle.surface.specs.Pixels.{Px}
use Rattle.runs.specs.Asked.{RowOn}
use Rattle.paint.specs.Paint.{Touch}
use Rattle.tint.specs.declared.Masks.{Masks}
use Rattle.tint.specs.Masking.{ones, mask_in, tintings, Tables}

-- as long as 64 masks want, of four bytes at most
pub record Whole (t : Tables) : Type 0 where
  pub keeps : length t.keep ≡ 256
  pub flips : length t.flip ≡ 256
  pub counts : length t.adds ≡ 64

-- a mask for n bytes that counts a pixel, or leaves it
pub record Sound (n keep flip adds : ℕ) : Type 0 where
  pub few : adds ≤ 1
  pub left : adds ≡ 0 → (keep ≡ ones % 256 ^ n) × (flip ≡ 0 % 256 ^ n)

-- those that h rows of pixels want are
pub record RowsSound (s : Surface) (keep flip adds : List ℕ) (h : ℕ) : Type 0 where
  pub sound : (j : ℕ) → j < h → (i : ℕ) → i < 8
      → Sound s.bytes (mask_in s.bytes keep (j % 8 * 8 + i)) (mask_in s.bytes flip (j % 8 * 8 + i)) (get_or adds (j % 8 * 8 + i) 0)

-- w pixels of row y from x on can be tinted
pub record CanTint (s : Surface) (keep flip adds : List ℕ) (first len x w y : ℕ) : Type 0 where
  pub flat : s.tiled ≡ false
  pub colour : Colour s
  pub on : RowOn s len x w y
  pub eight : first ≤ 56
  pub keeps : length keep ≡ 256
  pub flips : length flip ≡ 256
  pub sound : (i : ℕ) → i < 8 → Sound s.bytes (mask_in s.bytes keep (first + i)) (mask_in s.bytes flip (first + i)) (get_or adds (first + i) 0)

-- the same by the eight masks of a row, whose bytes are bytes; and what becomes of pixels by them
abbrev pub CanBy : Surface → Masks → ℕ → ℕ → ℕ → ℕ → Type 0
CanBy s masks len x w y =
    CanTint s masks.keep.now masks.flip.now masks.adds.now masks.first len x w y
    × (((i : ℕ) → get_or masks.keep.now i 0 < 256) × ((i : ℕ) → get_or masks.flip.now i 0 < 256))

abbrev pub tinted : Surface → Masks → ℕ → List Px → List Touch
tinted s masks x ps = tintings s masks.keep.now masks.flip.now masks.adds.now masks.first x ps
