-- `stretch::straight_rows` meets its contract: what remains of the rectangle, painted on the memory now, is the rectangle painted on the memory at the start.
-- Assumes nothing.
use mathlib.Core.Path.{◌≡◌}
use mathlib.Core.Bool.{false}
use Prim.Native.Nat.{◌+◌, ◌*◌}
use Rattle.surface.specs.Pixels.{origin}
use Rattle.paint.specs.Tally.{tally}
use Rattle.paint.proofs.Loops.{RowsLeft}
use Rattle.scale.specs.Scale.{walk_at}
use Rattle.stretch.proofs.Straight.{straightly_at}
use Rattle.stretch.proofs.straight_rows.Given as goal

abbrev pub invariant-loop-j : goal.invariant-loop-j
invariant-loop-j l =
    RowsLeft l.b.stretch.ink.target (straightly_at l.b.stretch) false false l.b.x l.y l.b.w l.h l.initial.mem l.j l.mem (tally (l.b.w * l.j) l.changed)
    × (l.walk ≡ walk_at l.b.stretch.rows (origin + (l.y + l.j)))
