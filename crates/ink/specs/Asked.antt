-- What functions of this crate ask for. No promise rests on it.
-- Assumes nothing.
use Rattle.std.specs.Prelude.{ℕ, ◌<◌}

-- a place of the pattern, for pixels of 1 to 4 bytes
pub record Cell (bytes column row : ℕ) : Type 0 where
  pub some : 0 < bytes
  pub four : bytes < 5
  pub column8 : column < 8
  pub row8 : row < 8
