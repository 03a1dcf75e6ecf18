-- Pairs of offset and word as register writes.
-- Assumes nothing.
use Rattle.std.specs.Prelude.{List, [], ◌∷◌, ℕ}
use Rattle.engine.specs.Writes.{Write}

unfoldable pub writes_of : List (ℕ × ℕ) → List Write
writes_of [] = []
writes_of (w ∷ ws) = record { offset = w.0; word = w.1 } ∷ writes_of ws
