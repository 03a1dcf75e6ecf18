-- What functions of this crate ask for. No promise rests on it.
-- Assumes nothing.
use Rattle.std.specs.Prelude.{ℕ, ◌^◌, ◌<◌}

-- a width as a size register has it, of a format
pub record Sized (bytes width : ℕ) : Type 0 where
  pub format : bytes < 5
  pub fits : width < 2 ^ 13
