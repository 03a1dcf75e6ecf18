-- `ppm::Page::rows` meets its contract: what the lines of the rows left give, said on the page now, all lines give, said on the page at the start.
-- Assumes nothing.
use mathlib.Core.Bool.{false}
use Prim.Native.Nat.{◌+◌, ◌-◌}
use lib.ListN.{length}
use Rattle.surface.specs.Pixels.{rect}
use Rattle.ppm.specs.declared.Page.{Page}
use Rattle.ppm.specs.Says.{Says}
use Rattle.ppm.specs.Picture.{lines}
use Rattle.ppm.specs.Asked.{RectOn}
use Rattle.ppm.proofs.Page.rows.Given as goal

abbrev pub invariant-loop-row : goal.invariant-loop-row
invariant-loop-row l =
    let left = l.y + l.h - l.row in
    ((p : Page) → Says (lines l.s l.mem (rect false false l.x l.row l.w left)) l.self p
    → Says (lines l.s l.mem (rect false false l.x l.y l.w l.h)) l.initial.self p)
    × RectOn l.s (length l.mem) l.x l.row l.w left
