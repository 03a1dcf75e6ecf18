-- What functions of this crate ask for. No promise rests on it.
-- Assumes nothing.
use Rattle.std.specs.Prelude.{◌≡◌, Bool, true, false, ℕ, ◌+◌, ◌-◌, ◌*◌, ◌^◌, ◌<◌, ◌≤◌}
use Rattle.surface.specs.Asked.{Colour}
use Rattle.sweep.specs.declared.Task.{Task}
use Rattle.runs.specs.Asked.{PixelsOn, Up, Down}
use Rattle.sweep.specs.Asked.{CanPaint, Orderly}
use Rattle.rect.specs.Fast.{plainly, touching, late, to_row, from_row}

-- both surfaces are in rows
pub record Flat (t : Task) : Type 0 where
  pub target : t.ink.target.tiled ≡ false
  pub from : t.from.tiled ≡ false

-- row y of a rectangle can be moved as a run of its w pixels
pub record RowMoves (t : Task) (w y len : ℕ) (to_left : Bool) : Type 0 where
  pub target : Colour t.ink.target
  pub source : Colour t.from
  pub first : t.y ≤ y
  pub small : t.sy + (y - t.y) < 2 ^ 32
  pub to : PixelsOn (to_row t y) t.from.bytes w len
  pub from : PixelsOn (from_row t y) t.from.bytes w len
  pub up : to_left ≡ false → Up (to_row t y) (from_row t y) (w * t.from.bytes)
  pub down : to_left ≡ true → Down (to_row t y) (from_row t y) (w * t.from.bytes)

-- a rectangle can be moved, from the corner that the two flags name
pub record Moves (t : Task) (w h len : ℕ) (to_left to_top : Bool) : Type 0 where
  pub flat : Flat t
  pub plain : plainly t ≡ true
  pub can : CanPaint t w h len
  pub orderly : Orderly t w h
  pub early : late to_left to_top t w h ≡ false

-- a plain copy shares no pixel with its source, and covers some
pub record Apart (t : Task) (w h len : ℕ) : Type 0 where
  pub plain : plainly t ≡ true
  pub can : CanPaint t w h len
  pub orderly : Orderly t w h
  pub none : touching t w h ≡ false
  pub wide : 0 < w
  pub high : 0 < h

-- a fill goes from the upper left corner, and a copy from the one that the two flags name
pub record Cornered (t : Task) (w h : ℕ) (to_left to_top : Bool) : Type 0 where
  pub fills : t.copies ≡ false → (to_left ≡ false) × (to_top ≡ false)
  pub copies : t.copies ≡ true → Orderly t w h
