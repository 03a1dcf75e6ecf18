-- What marking pages leaves of lent bytes that hold the marks as bits: the bits are those marks, and no other byte changed. No promise rests on it.
-- Assumes nothing.
use Rattle.std.specs.Prelude.{◌≡◌, ◌⊎◌, Bool, List, ℕ, ◌+◌, ◌<◌, ◌≤◌, length, get_or}
use Rattle.bitmap.specs.Bits.{bits_in}

pub record Stamped (s t : List ℕ) (at : ℕ) (marks : List Bool) : Type 0 where
  pub bits : bits_in t at ≡ marks
  pub long : length t ≡ length s
  pub same : (a : ℕ) → (a < at) ⊎ (at + 512 ≤ a) → get_or t a 0 ≡ get_or s a 0
  pub bytes : ((a : ℕ) → get_or s a 0 < 256) → (a : ℕ) → get_or t a 0 < 256
