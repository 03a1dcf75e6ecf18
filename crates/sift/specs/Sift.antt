-- Rectangles of which some pixels are left unwritten: which are written, by the source that each of them has. No promise rests on it: it is what functions say, and
-- that these are the pixels written is proved.
-- Assumes nothing.
use Rattle.std.specs.Prelude.{Bool, cond, not, List, [], ◌∷◌, ℕ, ◌*◌, ◌-◌, ◌/◌, ◌%◌, min}
use Rattle.surface.specs.declared.Surface.{Surface}
use Rattle.surface.specs.Place.{byte_at}
use Rattle.surface.specs.Pixels.{Px}
use Rattle.ink.specs.Pattern.{pattern_column, pattern_row, pattern_bit}
use Rattle.sweep.specs.declared.Task.{Task}
use Rattle.sweep.specs.Copy.{source_by}
use Rattle.scale.specs.declared.Stretch.{Stretch}
use Rattle.scale.specs.Stretch.{pixel_task}
use Rattle.sift.specs.declared.Sieve.{Sieve}

-- the pixels of a list that pass a test, in their order
unfoldable pub chosen : (Px → Bool) → List Px → List Px
chosen f [] = []
chosen f (p ∷ ps) = cond (f p) (p ∷ chosen f ps) (chosen f ps)

-- the work of pixel p: the rectangle's, or that of a stretch, in which each pixel has a source of its own
abbrev pub stretch_in : Sieve → Stretch
stretch_in v = record { ink = v.task.ink; from = v.task.from; columns = v.columns; rows = v.rows }

unfoldable pub task_at : Sieve → Px → Task
task_at v p = cond v.stretched (pixel_task (stretch_in v) p) v.task

-- its source, read in the memory m, leaves it; or not
unfoldable pub left_at : Task → List ℕ → List ℕ → Px → Bool
left_at t pattern m p = (source_by t (pattern_bit pattern (pattern_column t.ink p.x) (pattern_row t.ink p.y)) m p).left

abbrev pub wet : Sieve → List ℕ → List ℕ → Px → Bool
wet v pattern m p = not (left_at (task_at v p) pattern m p)

-- how many pixels from (x, y) on have all their bytes in the page of its first byte, for sure: up to the page's end, and on tiles up to the tile's
unfoldable pub run_of : Surface → ℕ → ℕ → ℕ
run_of s x y =
    let room = 4096 - byte_at s (x * s.bytes) y % 4096 in
    cond s.tiled (min room (128 - x * s.bytes % 128)) room / s.bytes
