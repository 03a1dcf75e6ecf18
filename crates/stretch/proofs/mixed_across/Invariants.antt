-- `stretch::mixed_across` meets its contract: each turn gives its pixel what the values of the pattern's row give it, and the walk goes on.
-- Assumes nothing.
use mathlib.Core.Path.{◌≡◌}
use mathlib.Core.Bool.{false}
use Prim.Native.Nat.{◌+◌}
use Rattle.surface.specs.Pixels.{origin}
use Rattle.paint.proofs.Loops.{RowLeft}
use Rattle.sweep.specs.Row.{row_giving}
use Rattle.scale.specs.Scale.{walk_at}
use Rattle.scale.specs.Stretch.{pixel_task}
use Rattle.stretch.proofs.mixed_across.Given as goal

abbrev pub invariant-loop-i : goal.invariant-loop-i
invariant-loop-i l =
    RowLeft l.b.band.stretch.ink.target (λ p now. row_giving (pixel_task l.b.band.stretch p) l.quads 0 now p) false l.b.band.x l.b.band.w l.y l.initial.mem l.initial.r l.i l.mem l.r
    × (l.walk ≡ walk_at l.b.band.stretch.columns (origin + (l.b.band.x + l.i)))
