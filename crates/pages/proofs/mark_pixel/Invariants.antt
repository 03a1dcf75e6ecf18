-- `pages::mark_pixel` meets its contract: the bytes left, marked now, are those of the pixel, marked at the start.
-- Assumes nothing.
use mathlib.Core.Path.{◌≡◌}
use mathlib.Core.List.{[], ◌∷◌}
use Prim.Native.Nat.{◌+◌, ◌-◌, ◌*◌}
use Rattle.surface.specs.Pixels.{px}
use Rattle.spans.specs.Span.{addresses_of}
use Rattle.pages.specs.Pages.{marked_at, marking}
use Rattle.pages.proofs.mark_pixel.Given as goal

abbrev pub invariant-loop-k : goal.invariant-loop-k
invariant-loop-k l = marked_at (addresses_of l.s (l.x * l.s.bytes + l.k) (l.s.bytes - l.k) l.y) l.marks ≡ marking l.s (px l.x l.y ∷ []) l.initial.marks
