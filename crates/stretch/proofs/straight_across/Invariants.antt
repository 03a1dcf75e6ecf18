-- `stretch::straight_across` meets its contract: each turn gives its pixel what is its own, and the walk goes on.
-- Assumes nothing.
use mathlib.Core.Path.{◌≡◌}
use Prim.Native.Nat.{◌+◌}
use Rattle.surface.specs.Pixels.{origin}
use Rattle.scale.specs.Scale.{walk_at}
use Rattle.stretch.proofs.Straight.{Copying}
use Rattle.stretch.proofs.straight_across.Given as goal

abbrev pub invariant-loop-i : goal.invariant-loop-i
invariant-loop-i g l = Copying l.b.stretch l.b.x l.b.w l.y l.initial.mem l.i l.r l.mem × (l.walk ≡ walk_at l.b.stretch.columns (origin + (l.b.x + l.i)))
