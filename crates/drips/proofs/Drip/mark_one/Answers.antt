-- `drips::Drip::mark_one` meets its contract: the pixel is marked, or it is left, or it is outside the clip.
-- Assumes nothing.
use native.Mathlib.Omega.{arith}
use mathlib.Core.Path.{sym, ◌∙◌}
use Rattle.paint.proofs.ClipLaws.{in-clip}
use Rattle.drips.proofs.Marks.{one-falls, one_left, one_outside}
use Rattle.drips.proofs.Drip.mark_one.Goals as goal

pub returns-then-is_left : goal.returns-then-is_left
returns-then-is_left c =
    let a = c.args in
    one_left a.self.ink a.self.clip a.self.feed a.i a.j a.v a.marks.now (sym c.is_left.ensures ∙ c.if-is_left.true)

pub overflow_sub-x : goal.overflow_sub-x
overflow_sub-x c = omega (arith, (in-clip _ _ _ (sym c.covers.ensures ∙ c.if-covers.true)))

pub overflow_sub-y : goal.overflow_sub-y
overflow_sub-y c = omega (arith, (in-clip _ _ _ (sym c.covers.ensures ∙ c.if-covers.true)))

pub returns-else-is_left : goal.returns-else-is_left
returns-else-is_left c =
    let a = c.args in
    c.mark_pixel.ensures
    ∙ one-falls a.self.ink a.self.clip a.self.feed a.i a.j a.v a.marks.now (sym c.covers.ensures ∙ c.if-covers.true)
    (sym c.is_left.ensures ∙ c.if-is_left.false)

pub returns-else-covers : goal.returns-else-covers
returns-else-covers c =
    let a = c.args in
    one_outside a.self.ink a.self.clip a.self.feed a.i a.j a.v a.marks.now (sym c.covers.ensures ∙ c.if-covers.false)
