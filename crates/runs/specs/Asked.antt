-- What functions of this crate ask for. No promise rests on it.
-- Assumes nothing.
use Rattle.std.specs.Prelude.{◌≡◌, ℕ, ◌+◌, ◌*◌, ◌^◌, ◌<◌, ◌≤◌}
use Rattle.surface.specs.declared.Surface.{Surface}
use Rattle.surface.specs.Place.{byte_at}
use Rattle.surface.specs.Asked.{Small, Colour, Held, OnColour}

-- w pixels of row y from x on are on their surface, in a memory of len bytes
pub record RowOn (s : Surface) (len x w y : ℕ) : Type 0 where
  pub wide : x + w ≤ 2 ^ 13
  pub on : (i : ℕ) → x ≤ i → i < x + w → OnColour s len i y

-- a rectangle is
pub record RectOn (s : Surface) (len x y w h : ℕ) : Type 0 where
  pub colour : Colour s
  pub wide : x + w ≤ 2 ^ 13
  pub high : y + h ≤ 2 ^ 13
  pub on : (i j : ℕ) → x ≤ i → i < x + w → y ≤ j → j < y + h → OnColour s len i j

-- n bytes of row y from column x on, columns counting bytes
pub record RowHeld (s : Surface) (x y n len : ℕ) : Type 0 where
  pub small : Small s
  pub wide : x + n < 2 ^ 32
  pub high : y < 2 ^ 32
  pub held : (i : ℕ) → i < n → byte_at s (x + i) y < len

-- n bytes at d and at s, in a memory of len bytes
pub record Run (d s n len : ℕ) : Type 0 where
  pub to : (i : ℕ) → i < n → d + i < len
  pub from : (i : ℕ) → i < n → s + i < len

-- w pixels of b bytes from an address on, in a memory of len bytes
pub record PixelsOn (at b w len : ℕ) : Type 0 where
  pub some : 0 < b
  pub few : b < 5
  pub wide : w ≤ 2 ^ 13
  pub held : (i : ℕ) → i < w → Held (at + i * b) b len

-- no byte is read after it was overwritten, going up, or going down
pub record Up (d s n : ℕ) : Type 0 where
  pub unread : (i j : ℕ) → j < i → i < n → d + j ≡ s + i → ⊥

pub record Down (d s n : ℕ) : Type 0 where
  pub unread : (i j : ℕ) → i < j → j < n → d + j ≡ s + i → ⊥
