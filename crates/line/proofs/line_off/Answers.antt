-- `line::line_off` meets its contract: the rectangle that holds the covered points is on the surface, or the points that are left decide it.
-- Assumes nothing.
use native.Mathlib.Omega.{arith}
use mathlib.Core.Path.{refl, sym, ap, ◌∙◌}
use Rattle.line.specs.Draw.{line_off}
use Rattle.line.proofs.TreadLaws.{way-starts, way-placed, way-point, way-small, way-goes}
use Rattle.line.proofs.PointLaws.{from_start}
use Rattle.line.proofs.DrawLaws.{off-left, off-none, box-on}
use Rattle.line.proofs.line_off.Goals as goal

pub box_on-requires : goal.box_on-requires
box_on-requires c =
    (c.requires.surface, omega (arith, c.reach-w.ensures, c.requires.clip), omega (arith, c.reach-h.ensures, c.requires.clip))

pub returns-then-box_on : goal.returns-then-box_on
returns-then-box_on c =
    let a = c.args in
    box-on a.s a.len a.c a.l _ _ c.reach-w.ensures c.reach-h.ensures (sym c.box_on.ensures ∙ c.if-box_on.true)

pub loop-i-init : goal.loop-i-init
loop-i-init c =
    let a = c.args in
    (ap (line_off a.s a.len a.c) (from_start a.l _ refl), λ _. way-starts c.long_side-n.ensures c.short_side-m.ensures)

pub place_point-requires : goal.place_point-requires
place_point-requires c = way-placed (c.loop-i.invariant.1 (omega arith))

pub returns-then-point_off : goal.returns-then-point_off
returns-then-point_off c =
    let a = c.args in
    off-left a.s a.len a.c a.l _ _ _ _ (omega arith) (way-point (c.loop-i.invariant.1 (omega arith)) c.place_point.ensures) (sym c.if-point_off.true ∙ c.point_off.ensures)
    ∙ c.loop-i.invariant.0

pub tread_on-t-requires : goal.tread_on-t-requires
tread_on-t-requires c = way-small (c.loop-i.invariant.1 (omega arith)) c.requires.line

pub loop-i-preserved : goal.loop-i-preserved
loop-i-preserved c =
    let a = c.args in (
      off-left a.s a.len a.c a.l _ _ _ _ (omega arith) (way-point (c.loop-i.invariant.1 (omega arith)) c.place_point.ensures) (sym c.if-point_off.false ∙ c.point_off.ensures)
          ∙ c.loop-i.invariant.0,
      (λ h. way-goes (c.loop-i.invariant.1 (omega arith)) c.tread_on-t.ensures refl h),
    )

pub returns : goal.returns
returns c = let a = c.args in off-none a.s a.len a.c a.l _ _ (omega arith) ∙ c.loop-i.invariant.0
