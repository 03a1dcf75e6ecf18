-- `line::point_off` meets its contract: by the test of the clip.
-- Assumes nothing.
use native.Mathlib.Omega.{arith}
use mathlib.Core.Path.{sym, ◌∙◌}
use Rattle.paint.proofs.ClipLaws.{in-clip}
use Rattle.line.proofs.DrawLaws.{off-covered, off-clipped}
use Rattle.line.proofs.point_off.Goals as goal

pub overflow_sub-p : goal.overflow_sub-p
overflow_sub-p c = omega (arith, in-clip c.args.c c.args.p.x c.args.p.y (sym c.covers.ensures ∙ c.if-covers.true))

pub overflow_sub-p-then-covers : goal.overflow_sub-p-then-covers
overflow_sub-p-then-covers c = omega (arith, in-clip c.args.c c.args.p.x c.args.p.y (sym c.covers.ensures ∙ c.if-covers.true))

pub close_on-requires : goal.close_on-requires
close_on-requires c = let k = in-clip c.args.c c.args.p.x c.args.p.y (sym c.covers.ensures ∙ c.if-covers.true) in (c.requires.0, omega (arith, c.requires.1), omega (arith, c.requires.1))

pub returns-then-covers : goal.returns-then-covers
returns-then-covers c = let a = c.args in off-covered a.s a.len a.c a.p _ c.close_on.ensures (sym c.covers.ensures ∙ c.if-covers.true)

pub returns-else-covers : goal.returns-else-covers
returns-else-covers c = let a = c.args in c.if-covers.false ∙ off-clipped a.s a.len a.c a.p (sym c.covers.ensures ∙ c.if-covers.false)
