-- What a pixel is given by the values, and the bits, of the pattern's row there.
-- Assumes nothing.
use Rattle.std.specs.Prelude.{List, map, ℕ, ◌-◌, ◌/◌, ◌%◌, ◌^◌, get_or}
use Rattle.std.proofs.Math.Option.{Option}
use Rattle.surface.specs.Place.{read_px}
use Rattle.surface.specs.Pixels.{Px}
use Rattle.ink.specs.Pattern.{pattern_column}
use Rattle.paint.specs.Paint.{Touch, touch}
use Rattle.paint.specs.Mix.{mixed}
use Rattle.sweep.specs.declared.Task.{Task}
use Rattle.sweep.specs.Copy.{source_by}

-- what pixel p is given by these values of the pattern's row, and by these bits of it if it is mono
unfoldable pub row_giving : Task → List ℕ → ℕ → List ℕ → Px → Option ℕ
row_giving t values bits now p =
    mixed t.ink (get_or values (pattern_column t.ink p.x) 0) (source_by t (bits / 2 ^ (7 - pattern_column t.ink p.x) % 2) now p)
    (read_px now t.ink.target p.x p.y)

abbrev pub in_row : Task → List ℕ → ℕ → List Px → List Touch
in_row t values bits ps = map (λ p. touch p (λ now. row_giving t values bits now p)) ps
