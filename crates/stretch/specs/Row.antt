-- A row of a stretch: what its pixels are given.
-- Assumes nothing.
use Rattle.std.specs.Prelude.{true, List, map, ℕ}
use Rattle.surface.specs.Pixels.{Px}
use Rattle.paint.specs.Paint.{Touch, touch}
use Rattle.sweep.specs.declared.Task.{Task}
use Rattle.sweep.specs.Row.{row_giving}
use Rattle.scale.specs.declared.Stretch.{Stretch}
use Rattle.scale.specs.Stretch.{pixel_task}
use Rattle.straight.specs.Straight.{straight_giving}
use Rattle.rect.specs.Fast.{straight_of}

-- the copy of a pixel, with its places left open
abbrev pub open_task : Stretch → Task
open_task t = record { ink = t.ink; copies = true; from = t.from; sx = 0; sy = 0; x = 0; y = 0 }

-- what pixels are given by the values of the pattern's row
abbrev pub row_touch : Stretch → List ℕ → Px → Touch
row_touch t quads p = touch p (λ now. row_giving (pixel_task t p) quads 0 now p)

abbrev pub in_row : Stretch → List ℕ → List Px → List Touch
in_row t quads ps = map (row_touch t quads) ps

-- what they are given where each gets its source, converted, or stays as it is where the source matches the key
abbrev pub straight_touch : Stretch → Px → Touch
straight_touch t p = touch p (λ now. straight_giving (straight_of (pixel_task t p)) now p)

abbrev pub straightly : Stretch → List Px → List Touch
straightly t ps = map (straight_touch t) ps
