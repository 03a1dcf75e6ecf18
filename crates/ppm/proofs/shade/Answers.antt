-- `ppm::shade` meets its contract: by the test for 8 bits a pixel.
-- Assumes nothing.
use borrow.Author.Tests.{eq-eqb, ne_eqb}
use Rattle.ppm.specs.Picture.{shade}
use Rattle.ppm.proofs.shade.Goals as goal

pub returns-then-bytes-eq1 : goal.returns-then-bytes-eq1
unfolding shade
returns-then-bytes-eq1 c = rw (eq-eqb _ _ c.if-bytes-eq1.true)

pub returns : goal.returns
unfolding shade
returns c = rw (ne_eqb _ _ c.if-bytes-eq1.false) c.convert.ensures
