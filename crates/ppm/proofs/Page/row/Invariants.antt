-- `ppm::Page::row` meets its contract: what the lines of the pixels left give, said on the page now, the row's lines give, said on the page at the start.
-- Assumes nothing.
use mathlib.Core.Bool.{false}
use Prim.Native.Nat.{◌+◌, ◌-◌}
use lib.ListN.{length}
use Rattle.surface.specs.Pixels.{across}
use Rattle.ppm.specs.declared.Page.{Page}
use Rattle.ppm.specs.Says.{Says}
use Rattle.ppm.specs.Picture.{lines}
use Rattle.ppm.specs.Asked.{RowOn}
use Rattle.ppm.proofs.Page.row.Given as goal

abbrev pub invariant-loop-column : goal.invariant-loop-column
invariant-loop-column l =
    let left = l.x + l.w - l.column in
    ((p : Page) → Says (lines l.s l.mem (across false l.column left l.y)) l.self p → Says (lines l.s l.mem (across false l.x l.w l.y)) l.initial.self p)
    × RowOn l.s (length l.mem) l.column left l.y
