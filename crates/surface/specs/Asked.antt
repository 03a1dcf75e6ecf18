-- What functions of this crate ask for. No promise rests on it.
-- Assumes nothing.
use Rattle.std.specs.Prelude.{◌≡◌, true, ℕ, ◌+◌, ◌^◌, ◌<◌, ◌≤◌}
use Rattle.surface.specs.declared.Surface.{Surface}
use Rattle.surface.specs.Place.{byte_of, on_surface}

-- a surface as registers can name one
pub record Small (s : Surface) : Type 0 where
  pub base : s.base < 2 ^ 24
  pub stride : s.stride < 2 ^ 17
  pub bytes : s.bytes < 5

-- the same, and not mono
pub record Colour (s : Surface) : Type 0 where
  pub small : Small s
  pub some : 0 < s.bytes

-- a byte whose address can be worked out
pub record Near (s : Surface) (column y : ℕ) : Type 0 where
  pub small : Small s
  pub across : column < 2 ^ 40
  pub down : y < 2 ^ 34

-- one so close to the origin that 32 bits are enough for it
pub record Close (s : Surface) (column y : ℕ) : Type 0 where
  pub small : Small s
  pub across : column < 2 ^ 17
  pub down : y < 2 ^ 13

-- byte k of a colour pixel, in a memory of len bytes
pub record HasByte (s : Surface) (len x y k : ℕ) : Type 0 where
  pub colour : Colour s
  pub low : k < s.bytes
  pub inside : byte_of s x y k < len

-- n bytes from an address on, in a memory of len bytes
pub record Held (at n len : ℕ) : Type 0 where
  pub some : 0 < n
  pub few : n < 5
  pub inside : at + n ≤ len

-- a pixel that is on its colour surface, and one that is on its mono surface
pub record OnColour (s : Surface) (len x y : ℕ) : Type 0 where
  pub colour : Colour s
  pub on : on_surface s len x y ≡ true

-- the first of the two, close to the origin
pub record OnClose (s : Surface) (len x y : ℕ) : Type 0 where
  pub on : OnColour s len x y
  pub across : x < 2 ^ 13
  pub down : y < 2 ^ 13

pub record OnMono (s : Surface) (len x y : ℕ) : Type 0 where
  pub small : Small s
  pub mono : s.bytes ≡ 0
  pub on : on_surface s len x y ≡ true
