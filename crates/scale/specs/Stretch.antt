-- A stretch copy: each target pixel is given what a screen copy of this one pixel, from the source pixel that it takes, would give it.
-- Assumes nothing.
use Rattle.std.specs.Prelude.{true, List, map, ℕ, ◌+◌}
use Rattle.std.proofs.Math.Option.{Option}
use Rattle.surface.specs.Pixels.{Px, px, origin}
use Rattle.paint.specs.Clip.{pixel_at}
use Rattle.paint.specs.Paint.{Touch, touch}
use Rattle.sweep.specs.declared.Task.{Task}
use Rattle.sweep.specs.Copy.{giving}
use Rattle.scale.specs.declared.Stretch.{Stretch}
use Rattle.scale.specs.Scale.{scaled}

-- the position of the source pixel that pixel p takes, counted from 16384
unfoldable pub taken_at : Stretch → Px → Px
taken_at t p = px (scaled t.columns (origin + p.x)) (scaled t.rows (origin + p.y))

-- the same as a pixel of its surface
abbrev pub taken : Stretch → Px → Px
taken t p = pixel_at (taken_at t p).x (taken_at t p).y

-- the screen copy of pixel p alone
unfoldable pub pixel_task : Stretch → Px → Task
pixel_task t p = record {
  ink = t.ink;
  copies = true;
  from = t.from;
  sx = (taken t p).x;
  sy = (taken t p).y;
  x = p.x;
  y = p.y;
}

-- what pixel p is given, its source read in the memory m, and the pixel itself in the memory now
abbrev pub stretch_giving : Stretch → List ℕ → List ℕ → List ℕ → Px → Option ℕ
stretch_giving t pattern m now p = giving (pixel_task t p) pattern m now p

-- each pixel from the source as it was before the command, in the memory m
abbrev pub stretched : Stretch → List ℕ → List ℕ → List Px → List Touch
stretched t pattern m ps = map (λ p. touch p (λ now. stretch_giving t pattern m now p)) ps

-- each pixel from the source as it is when its turn comes
abbrev pub turn_touch : Stretch → List ℕ → Px → Touch
turn_touch t pattern p = touch p (λ now. stretch_giving t pattern now now p)

abbrev pub stretched_in_turn : Stretch → List ℕ → List Px → List Touch
stretched_in_turn t pattern ps = map (turn_touch t pattern) ps
