-- What functions of this crate ask for. No promise rests on it.
-- Assumes nothing.
use Rattle.std.specs.Prelude.{◌≡◌, ℕ}
use Rattle.registers.specs.declared.Place.TheVariants.{Register, Pattern}
use Rattle.registers.specs.Offsets.{place_of}

-- an offset that is neither a plain register's nor the pattern's
pub record Draws (o : ℕ) : Type 0 where
  pub register : place_of o ≡ Register → o ≡ 0x70
  pub pattern : (i : ℕ) → place_of o ≡ Pattern i → ⊥
