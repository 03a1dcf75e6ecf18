-- `ppm::Page::rows` meets its contract: what the lines of the rows left give, said on the page now, all lines give, said on the page at the start.
-- Assumes nothing.
use native.Mathlib.Omega.{arith}
use mathlib.Core.Path.{◌≡◌}
use Prim.Native.Nat.{◌+◌, ◌-◌}
use lib.ListN.{length}
use Rattle.surface.specs.Pixels.{rect}
use Rattle.ppm.specs.Picture.{lines}
use Rattle.ppm.proofs.TextLaws.{says_none, says_both}
use Rattle.ppm.proofs.PictureLaws.{rect-first, rect-rest, rect-lines}
use Rattle.ppm.proofs.Page.rows.Goals as goal

pub loop-row-init : goal.loop-row-init
loop-row-init c =
    let whole : c.args.y + c.args.h - c.args.y ≡ c.args.h = omega arith in
    rw whole (λ p rest. rest, c.requires.0)

pub row-requires : goal.row-requires
row-requires c =
    let a = c.args in
    let k = c.loop-row in
    (rect-first a.s (length a.mem.now) a.x k.row a.w (a.y + a.h - k.row) (omega arith) k.invariant.1, c.requires.1.0)

pub loop-row-preserved : goal.loop-row-preserved
loop-row-preserved c =
    let a = c.args in
    let k = c.loop-row in
    let left = a.y + a.h - k.row in
    let less : a.y + a.h - (k.row + 1) ≡ left - 1 = omega arith in
    rw less (
      λ p rest. k.invariant.0 p (rw (rect-lines a.s a.mem.now a.x k.row a.w left (omega arith)) (says_both c.row.ensures rest)),
      rect-rest a.s (length a.mem.now) a.x k.row a.w left (omega arith) k.invariant.1,
    )

pub returns : goal.returns
unfolding rect lines
returns c =
    let k = c.loop-row in
    let none : c.args.y + c.args.h - k.row ≡ 0 = omega arith in
    k.invariant.0 k.self (rw none (says_none k.self))
