-- `raster::raster` meets its contract: the choices between the bits of the code; `merged-is` is their law.
-- Assumes nothing.
use mathlib.Core.Path.{◌∙◌}
use Rattle.raster.specs.Masks.{laid}
use Rattle.raster.proofs.RopTree.{merged-is}
use Rattle.raster.proofs.raster.Goals as goal

pub returns : goal.returns
unfolding laid
returns c = rw (c.lay-q3.ensures, c.spread-8.ensures, c.spread-7.ensures, c.lay-q2.ensures, c.spread-6.ensures, c.spread-5.ensures, c.lay-q1.ensures, c.spread-4.ensures, c.spread-3.ensures, c.lay-q0.ensures, c.spread-2.ensures, c.spread.ensures) at c.merge.ensures ∙ merged-is c.args.code c.args.p c.args.s c.args.d
