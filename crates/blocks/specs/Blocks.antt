-- Rectangles of bytes that go from one surface to another, or from rows of one to other rows of it, whatever their layouts.
-- Columns count bytes, so that a pixel here is a byte of a row.
-- Assumes nothing.
use Rattle.std.specs.Prelude.{◌≡◌, cond, not, List, ℕ, zero, suc, ◌+◌, ◌-◌, ◌*◌, ◌<◌, eqb, length, get_or}
use Rattle.surface.specs.declared.Surface.{Surface}
use Rattle.surface.specs.Place.{byte_at, read_px, one}
use Rattle.surface.specs.Pixels.{Px, Inside}
use Rattle.blocks.specs.declared.Way.{Way}

-- the bytes of a rectangle have these values; every other byte is left
pub record Put (s : Surface) (value : Px → ℕ) (x y n h : ℕ) (m m' : List ℕ) : Type 0 where
  pub inside : (p : Px) → Inside x y n h p → get_or m' (byte_at s p.x p.y) 0 ≡ value p
  pub others : (a : ℕ) → ((p : Px) → Inside x y n h p → a ≡ byte_at s p.x p.y → ⊥) → get_or m' a 0 ≡ get_or m a 0
  pub long : length m' ≡ length m

-- the address that a byte comes from, and the byte
abbrev pub origin : Way → Px → ℕ
origin b p = byte_at b.from (b.sx + (p.x - b.x)) (b.sy + (p.y - b.y))

abbrev pub origin_byte : Way → List ℕ → Px → ℕ
origin_byte b m p = get_or m (origin b p) 0

-- ---- lines of n bytes, at d and p apart, that have come from s on, r apart
pub record Laid (d p s r n h : ℕ) (m m' : List ℕ) : Type 0 where
  pub came : (q i : ℕ) → q < h → i < n → get_or m' (d + (q * p + i)) 0 ≡ get_or m (s + (q * r + i)) 0
  pub others : (a : ℕ) → ((q i : ℕ) → q < h → i < n → a ≡ d + (q * p + i) → ⊥) → get_or m' a 0 ≡ get_or m a 0
  pub long : length m' ≡ length m

-- how far apart the rows of a block are
abbrev pub pitch : Surface → ℕ
pitch s = cond s.tiled 128 s.stride

-- ---- how many of w pixels of row y from x on are not those of row sy from sx on
unfoldable pub others : Surface → Surface → List ℕ → ℕ → ℕ → ℕ → ℕ → ℕ → ℕ
others to from m x y sx sy zero = 0
others to from m x y sx sy (suc w) = one (not (eqb (read_px m to x y) (read_px m from sx sy))) + others to from m (x + 1) y (sx + 1) sy w

-- the same of h rows, from row number j on, each against a row of its own
unfoldable pub others_down : Surface → Surface → List ℕ → ℕ → ℕ → ℕ → ℕ → ℕ → ℕ → ℕ → ℕ
others_down to from m x y sx sy w j zero = 0
others_down to from m x y sx sy w j (suc h) = others to from m x (y + j) sx (sy + j) w + others_down to from m x y sx sy w (j + 1) h
