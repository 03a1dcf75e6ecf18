-- `ppm::Page::header` meets its contract: the three lines, one after the other.
-- Assumes nothing.
use Rattle.ppm.specs.Picture.{header}
use Rattle.ppm.proofs.TextLaws.{says_both}
use Rattle.ppm.proofs.Page.header.Goals as goal

pub returns : goal.returns
unfolding header
returns c = says_both c.say.ensures (says_both c.number.ensures (says_both c.number-2.ensures c.say-2.ensures))
