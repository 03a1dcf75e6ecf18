-- What functions of this crate ask for and hand to each other. No promise rests on it.
-- Assumes nothing.
use Rattle.std.specs.Prelude.{◌≡◌, cond, eqb, List, ℕ, ◌+◌, ◌*◌, ◌/◌, ◌%◌, ◌^◌, ◌<◌, ◌≤◌, get_or}
use Rattle.surface.specs.Place.{read_bytes}
use Rattle.pours.specs.Pours.{unlike}

-- n words are whole pixels of b bytes, and so many bytes from an address on are in a memory of len bytes
pub record Pours (at b n len : ℕ) : Type 0 where
  pub some : 0 < b
  pub few : b < 5
  pub whole : b ≡ 3 → n % 3 ≡ 0
  pub short : n ≤ 2 ^ 16
  pub held : at + 4 * n ≤ len

-- r is the word from an address on, in a memory of bytes
pub record WordRead (m : List ℕ) (at r : ℕ) : Type 0 where
  pub word : r ≡ read_bytes m (λ k. at + k) 0 4
  pub bytes : (a : ℕ) → get_or m a 0 < 256

-- how many of the pixels of b bytes that two words are, four, two or one each, are not alike
abbrev pub unlike_word : ℕ → ℕ → ℕ → ℕ
unlike_word b x y =
    cond (eqb b 1) (unlike (x % 0x100) (y % 0x100) + unlike (x / 0x100 % 0x100) (y / 0x100 % 0x100) + unlike (x / 0x10000 % 0x100) (y / 0x10000 % 0x100) + unlike (x / 0x1000000) (y / 0x1000000))
    (cond (eqb b 2) (unlike (x % 0x10000) (y % 0x10000) + unlike (x / 0x10000) (y / 0x10000)) (unlike x y))
