-- What each offset names. Only multiples of 4 name anything; 44 and 48 are other offsets of the pattern's first two words.
-- Assumes nothing.
use Rattle.std.specs.Prelude.{ℕ, ◌-◌, ◌%◌, Bool, cond, ◌&&◌, eqb, leb}
use Rattle.registers.specs.declared.Place.{Place}
use Rattle.registers.specs.declared.Place.TheVariants.{Register, Pattern, Launch, Nowhere}

-- from a to e, both included
abbrev pub between : ℕ → ℕ → ℕ → Bool
between a e o = leb a o && leb o e

unfoldable pub place_of : ℕ → Place
place_of o =
    cond (eqb (o % 4) 0) (
    cond (eqb o 0x44) (Pattern 0) (
    cond (eqb o 0x48) (Pattern 4) (
    cond (between 0x08 0x70 o) Register (
    cond (between 0x80 0xfc o) Launch (
    cond (between 0x100 0x1fc o) (Pattern (o - 0x100))
    Nowhere)))))
    Nowhere
