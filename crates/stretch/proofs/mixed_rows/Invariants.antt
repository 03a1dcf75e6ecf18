-- `stretch::mixed_rows` meets its contract: what remains of the rectangle, painted on the memory now, is the rectangle painted on the memory at the start.
-- Assumes nothing.
use mathlib.Core.Path.{◌≡◌}
use mathlib.Core.Bool.{false}
use Prim.Native.Nat.{◌+◌}
use Rattle.surface.specs.Pixels.{origin}
use Rattle.paint.proofs.Loops.{RowsLeft}
use Rattle.scale.specs.Scale.{walk_at}
use Rattle.scale.specs.Stretch.{stretch_giving}
use Rattle.stretch.proofs.mixed_rows.Given as goal

abbrev pub invariant-loop-j : goal.invariant-loop-j
invariant-loop-j l =
    RowsLeft l.b.band.stretch.ink.target (λ p now. stretch_giving l.b.band.stretch l.b.pattern now now p) false false l.b.band.x l.y l.b.band.w l.h l.initial.mem l.j l.mem l.n
    × (l.walk ≡ walk_at l.b.band.stretch.rows (origin + (l.y + l.j)))
