-- What does not change within a row, worked out before its pixels: the raster operations at the pattern's row, and the ranges of the keys.
-- Assumes nothing.
use Rattle.std.specs.Prelude.{List, map, ℕ, ◌-◌, ◌/◌, ◌%◌, ◌^◌}
use Rattle.std.proofs.Math.Option.{Option}
use Rattle.surface.specs.Place.{read_px}
use Rattle.surface.specs.Pixels.{Px}
use Rattle.paint.specs.Paint.{Touch, touch}
use Rattle.ink.specs.Pattern.{pattern_column}
use Rattle.plan.specs.Plan.{quad_mixed}
use Rattle.sweep.specs.declared.Task.{Task}
use Rattle.sweep.specs.Copy.{source_by}

-- what pixel p is given by these values of the pattern's row, and by these bits of it if it is mono
unfoldable pub row_giving : Task → List ℕ → ℕ → List ℕ → Px → Option ℕ
row_giving t quads bits now p =
    quad_mixed t.ink quads (pattern_column t.ink p.x) (source_by t (bits / 2 ^ (7 - pattern_column t.ink p.x) % 2) now p)
    (read_px now t.ink.target p.x p.y)

abbrev pub in_row : Task → List ℕ → ℕ → List Px → List Touch
in_row t quads bits ps = map (λ p. touch p (λ now. row_giving t quads bits now p)) ps
