-- `dots::line_box` meets its contract.
-- Assumes nothing.
use Rattle.dots.specs.Dots.{line_box}
use Rattle.dots.proofs.line_box.Goals as goal

pub returns : goal.returns
unfolding line_box
returns c = rw (c.box_low.ensures, c.box_low-2.ensures, c.box_size.ensures, c.box_size-2.ensures)
