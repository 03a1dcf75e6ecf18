-- What functions of this crate ask for. No promise rests on it.
-- Assumes nothing.
use Rattle.std.specs.Prelude.{◌≡◌, true, ℕ, ◌+◌, ◌-◌, ◌^◌, ◌<◌, ◌≤◌}
use Rattle.surface.specs.Place.{byte_of, on_surface}
use Rattle.surface.specs.Asked.{Small, Colour, OnColour}
use Rattle.surface.specs.Pixels.{origin}
use Rattle.scale.specs.declared.Stretch.{Stretch}
use Rattle.scale.specs.declared.Walk.{Walk}
use Rattle.scale.specs.Scale.{scaled, walk_at}
use Rattle.scale.specs.Asked.{OnScale, CanStretch}
use Rattle.rect.specs.Asked.{Flat}
use Rattle.stretch.specs.Row.{open_task}

-- pixel (x, y) is on the target, and the source pixel that it takes is on its surface
pub record TakesFrom (t : Stretch) (x y len : ℕ) : Type 0 where
  pub on : OnColour t.ink.target len x y
  pub left : origin ≤ scaled t.columns (origin + x)
  pub top : origin ≤ scaled t.rows (origin + y)
  pub from : on_surface t.from len (scaled t.columns (origin + x) - origin) (scaled t.rows (origin + y) - origin) ≡ true

-- w pixels of row y from column x on can be painted
pub record RowTakes (t : Stretch) (x y w len : ℕ) : Type 0 where
  pub colour : Colour t.ink.target
  pub small : Small t.from
  pub wide : x + w ≤ 2 ^ 13
  pub first : OnScale t.columns (origin + x)
  pub last : OnScale t.columns (origin + (x + w))
  pub each : (i : ℕ) → i < w → TakesFrom t (x + i) y len

-- the walk along the columns begins at x
abbrev pub ColumnsAt : Stretch → Walk → ℕ → Type 0
ColumnsAt t columns x = columns ≡ walk_at t.columns (origin + x)

-- the source's row of row y
abbrev pub row_of : Stretch → ℕ → ℕ
row_of t y = scaled t.rows (origin + y) - origin

-- row y goes straight: these are the formats, and the source's row is sy
pub record GoesStraight (t : Stretch) (from to sy y : ℕ) : Type 0 where
  pub source : from ≡ t.from.bytes
  pub target : to ≡ t.ink.target.bytes
  pub some : 0 < from
  pub flat : Flat (open_task t)
  pub row : sy ≡ row_of t y

-- these are the formats; row y of the target begins at d, from column x on, and the source's row at s
pub record RunAt (t : Stretch) (from to d s x y : ℕ) : Type 0 where
  pub flat : Flat (open_task t)
  pub source : from ≡ t.from.bytes
  pub target : to ≡ t.ink.target.bytes
  pub some : 0 < from
  pub first : d ≡ byte_of t.ink.target x y 0
  pub source_first : s ≡ byte_of t.from 0 (row_of t y) 0

-- pixel (sx, sy) is on the source's surface
pub record OnSource (t : Stretch) (sx sy len : ℕ) : Type 0 where
  pub small : Small t.from
  pub on : on_surface t.from len sx sy ≡ true

-- a rectangle that has pixels and can be stretched to; the walk along the rows begins at its first
pub record Begins (t : Stretch) (rows : Walk) (x y w h len : ℕ) : Type 0 where
  pub can : CanStretch t x y w h len
  pub wide : 0 < w
  pub high : 0 < h
  pub rows_at : rows ≡ walk_at t.rows (origin + y)
