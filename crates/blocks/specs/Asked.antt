-- What functions of this crate ask for. No promise rests on it.
-- Assumes nothing.
use Rattle.std.specs.Prelude.{◌≡◌, true, ℕ, ◌+◌, ◌*◌, ◌%◌, ◌^◌, ◌<◌, ◌≤◌}
use Rattle.surface.specs.declared.Surface.{Surface}
use Rattle.surface.specs.Place.{row_bytes, byte_at, on_surface}
use Rattle.surface.specs.Asked.{Small, Colour}
use Rattle.surface.specs.Pixels.{Px, Inside}
use Rattle.blocks.specs.declared.Way.{Way}
use Rattle.blocks.specs.Blocks.{origin}

-- such lines, in a memory of len bytes: none overlaps another, and none what they come from
pub record Lines (d p s r n h len : ℕ) : Type 0 where
  pub slim : n ≤ p
  pub low : d < 2 ^ 60
  pub low' : s < 2 ^ 60
  pub short : p < 2 ^ 17
  pub short' : r < 2 ^ 17
  pub few : h < 2 ^ 32
  pub to : (q i : ℕ) → q < h → i < n → d + (q * p + i) < len
  pub from : (q i : ℕ) → q < h → i < n → s + (q * r + i) < len
  pub apart : (q i q' i' : ℕ) → q < h → i < n → q' < h → i' < n → d + (q * p + i) ≡ s + (q' * r + i') → ⊥

-- a rectangle of n by h bytes can go its way, in a memory of len bytes: no byte is both come from and gone to
pub record Goes (b : Way) (n h len : ℕ) : Type 0 where
  pub small : Small b.to
  pub small' : Small b.from
  pub wide : b.x + n ≤ row_bytes b.to
  pub wide' : b.sx + n ≤ row_bytes b.from
  pub high : b.y + h < 2 ^ 32
  pub high' : b.sy + h < 2 ^ 32
  pub to : (p : Px) → Inside b.x b.y n h p → byte_at b.to p.x p.y < len
  pub from : (p : Px) → Inside b.x b.y n h p → origin b p < len
  pub apart : (p q : Px) → Inside b.x b.y n h p → Inside b.x b.y n h q → byte_at b.to p.x p.y ≡ origin b q → ⊥

-- n columns from x on, or h rows from y on, reach over no edge of a tile
pub record Columns (s : Surface) (x n : ℕ) : Type 0 where
  pub one : s.tiled ≡ true → x % 128 + n ≤ 128

pub record Rows (s : Surface) (y h : ℕ) : Type 0 where
  pub one : s.tiled ≡ true → y % 32 + h ≤ 32

-- w pixels of row y from x on are on their surface, and those of row sy from sx on, of the same format, on theirs
pub record PartOn (to from : Surface) (x y sx sy w len : ℕ) : Type 0 where
  pub format : from.bytes ≡ to.bytes
  pub wide : w ≤ 2 ^ 13
  pub right : x + w ≤ 2 ^ 13
  pub source_right : sx + w ≤ 2 ^ 15
  pub down : y < 2 ^ 13
  pub source_down : sy < 2 ^ 15
  pub target : Colour to
  pub source : Colour from
  pub on : (i : ℕ) → i < w → on_surface to len (x + i) y ≡ true
  pub source_on : (i : ℕ) → i < w → on_surface from len (sx + i) sy ≡ true

-- h rows of them, each with its own
pub record RowsOn (to from : Surface) (x y sx sy w h len : ℕ) : Type 0 where
  pub wide : w ≤ 2 ^ 13
  pub high : h ≤ 2 ^ 13
  pub each : (j : ℕ) → j < h → PartOn to from x (y + j) sx (sy + j) w len
