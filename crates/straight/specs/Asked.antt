-- What functions of this crate ask for. No promise rests on it.
-- Assumes nothing.
use Rattle.std.specs.Prelude.{◌≡◌, false, ℕ, ◌+◌, ◌^◌, ◌<◌, ◌≤◌}
use Rattle.surface.specs.Place.{byte_of}
use Rattle.surface.specs.Asked.{Colour, Held, OnColour}
use Rattle.straight.specs.declared.Straight.{Straight}

-- a rectangle of w by h pixels that can be copied, in a memory of len bytes: on its target, and its source on its surface, both in rows
pub record CanCopy (t : Straight) (w h len : ℕ) : Type 0 where
  pub flat : t.target.tiled ≡ false
  pub from_flat : t.from.tiled ≡ false
  pub target : Colour t.target
  pub from : Colour t.from
  pub wide : t.x + w ≤ 2 ^ 13
  pub high : t.y + h ≤ 2 ^ 13
  pub source_high : t.sy + h ≤ 2 ^ 15
  pub on_target : (i j : ℕ) → i < w → j < h → OnColour t.target len (t.x + i) (t.y + j)
  pub on_source : (i j : ℕ) → i < w → j < h → OnColour t.from len (t.sx + i) (t.sy + j)

-- its row number j can be
pub record RowCopies (t : Straight) (w j len : ℕ) : Type 0 where
  pub flat : t.target.tiled ≡ false
  pub from_flat : t.from.tiled ≡ false
  pub target : Colour t.target
  pub from : Colour t.from
  pub wide : w ≤ 2 ^ 13
  pub row : t.y + j < 2 ^ 32
  pub source_row : t.sy + j < 2 ^ 32
  pub on_target : (i : ℕ) → i < w → OnColour t.target len (t.x + i) (t.y + j)
  pub on_source : (i : ℕ) → i < w → OnColour t.from len (t.sx + i) (t.sy + j)

-- these are the formats of source and target
pub record Formats (t : Straight) (from to : ℕ) : Type 0 where
  pub source : from ≡ t.from.bytes
  pub target : to ≡ t.target.bytes

-- a pixel's bytes from d on, and its source's from s on
pub record PixelCopies (t : Straight) (from to d s len : ℕ) : Type 0 where
  pub formats : Formats t from to
  pub stored : Held d to len
  pub read : Held s from len

-- row j begins at d, and its source at s
pub record RunAt (t : Straight) (from to d s j : ℕ) : Type 0 where
  pub formats : Formats t from to
  pub first : d ≡ byte_of t.target t.x (t.y + j) 0
  pub source_first : s ≡ byte_of t.from t.sx (t.sy + j) 0
