-- Rectangles that need no general pixel: the one value of a solid fill, the bits of a mono copy, and the runs of bytes that a plain copy moves.
-- Assumes nothing.
use Rattle.std.specs.Prelude.{Bool, true, false, not, ◌&&◌, ◌||◌, List, ℕ, ◌+◌, ◌-◌, eqb, ltb, get_or}
use Rattle.surface.specs.Place.{same_surface, byte_of}
use Rattle.surface.specs.Pixels.{Px}
use Rattle.sweep.specs.declared.Task.{Task}
use Rattle.paint.specs.Mix.{direct}
use Rattle.bits.specs.declared.Mono.{Mono}
use Rattle.straight.specs.declared.Straight.{Straight}
use Rattle.sweep.specs.Copy.{source_place}

-- a fill that gives each pixel colorFore: raster operation CC, no target key, nothing left unwritten
abbrev pub solid : Task → Bool
solid t = ((not t.copies && eqb t.ink.rop0 0xcc) && not t.ink.dst_key) && not (t.ink.clear && t.ink.mono)

-- a copy that moves the bytes of its source: raster operation CC, no keys, one format
abbrev pub plainly : Task → Bool
plainly t = (((t.copies && eqb t.ink.rop0 0xcc) && not t.ink.src_key) && not t.ink.dst_key) && eqb t.from.bytes t.ink.target.bytes

-- a copy whose pixels get their sources, converted, or keep what stands there where the source matches the key: raster operation CC, no target key, and AA
-- for a match
abbrev pub straight : Task → Bool
straight t = ((t.copies && not (eqb t.from.bytes 0)) && direct t.ink) && (not t.ink.src_key || eqb t.ink.rop2 0xaa)

-- and what it needs
unfoldable pub straight_of : Task → Straight
straight_of t = record {
  target = t.ink.target;
  from = t.from;
  key = t.ink.src_key;
  least = t.ink.src_min;
  most = t.ink.src_max;
  x = t.x;
  y = t.y;
  sx = t.sx;
  sy = t.sy;
}

-- a mono copy whose pixels get the colours of their bits: raster operation CC, no target key
abbrev pub bitwise : Task → Bool
bitwise t = (t.copies && eqb t.from.bytes 0) && direct t.ink

-- and what it needs
unfoldable pub mono_of : Task → Mono
mono_of t = record {
  plain = record { target = t.ink.target; fore = t.ink.fore; back = t.ink.back; clear = t.ink.clear };
  from = t.from;
  sx = t.sx;
  sy = t.sy;
  x = t.x;
  y = t.y;
}

-- ---- reads that come after a write

-- a source place comes before the target's, going up, or after it, going down
abbrev pub behind : Bool → ℕ → ℕ → Bool
behind false s x = ltb s x
behind true s x = ltb x s

-- n places from s on and n from x on have one in common
abbrev pub overlap : ℕ → ℕ → ℕ → Bool
overlap s x n = ltb s (x + n) && ltb x (s + n)

-- a copy of w by h pixels shares a pixel with its source
unfoldable pub touching : Task → ℕ → ℕ → Bool
touching t w h = same_surface t.from t.ink.target && (overlap t.sx t.x w && overlap t.sy t.y h)

-- and, from the corner that the two flags name, reads it after it was overwritten
unfoldable pub late : Bool → Bool → Task → ℕ → ℕ → Bool
late to_left to_top t w h = touching t w h && (behind to_top t.sy t.y || (eqb t.sy t.y && behind to_left t.sx t.x))

-- ---- a plain copy's runs

-- the byte of the source pixel
abbrev pub source_byte : Task → List ℕ → Px → ℕ → ℕ
source_byte t m p k = get_or m (byte_of t.from (source_place t p).x (source_place t p).y k) 0

-- where row y of a rectangle begins, and where its source does
abbrev pub to_row : Task → ℕ → ℕ
to_row t y = byte_of t.ink.target t.x y 0

abbrev pub from_row : Task → ℕ → ℕ
from_row t y = byte_of t.from t.sx (t.sy + (y - t.y)) 0
