-- `ppm::Page::row` meets its contract: what the lines of the pixels left give, said on the page now, the row's lines give, said on the page at the start.
-- Assumes nothing.
use native.Mathlib.Omega.{arith}
use mathlib.Core.Path.{◌≡◌}
use Prim.Native.Nat.{◌+◌, ◌-◌}
use lib.ListN.{length}
use Rattle.surface.specs.Pixels.{across}
use Rattle.ppm.specs.Picture.{lines}
use Rattle.ppm.proofs.TextLaws.{says_none, says_both}
use Rattle.ppm.proofs.PictureLaws.{row_first, row-rest, row-lines}
use Rattle.ppm.proofs.Page.row.Goals as goal

pub loop-column-init : goal.loop-column-init
loop-column-init c =
    let whole : c.args.x + c.args.w - c.args.x ≡ c.args.w = omega arith in
    rw whole (λ p rest. rest, c.requires.0)

pub pixel-requires : goal.pixel-requires
pixel-requires c =
    let a = c.args in
    let k = c.loop-column in
    row_first a.s (length a.mem.now) k.column (a.x + a.w - k.column) a.y (omega arith) k.invariant.1

pub loop-column-preserved : goal.loop-column-preserved
loop-column-preserved c =
    let a = c.args in
    let k = c.loop-column in
    let left = a.x + a.w - k.column in
    let less : a.x + a.w - (k.column + 1) ≡ left - 1 = omega arith in
    rw less (
      λ p rest. k.invariant.0 p (rw (row-lines a.s a.mem.now k.column left a.y (omega arith)) (says_both c.pixel.ensures rest)),
      row-rest a.s (length a.mem.now) k.column left a.y (omega arith) k.invariant.1,
    )

pub returns : goal.returns
unfolding across lines
returns c =
    let k = c.loop-column in
    let none : c.args.x + c.args.w - k.column ≡ 0 = omega arith in
    k.invariant.0 k.self (rw none (says_none k.self))
