-- `ppm::Page::line` meets its contract: the three numbers, one after the other.
-- Assumes nothing.
use Rattle.ppm.specs.Picture.{line}
use Rattle.ppm.proofs.TextLaws.{says_both}
use Rattle.ppm.proofs.Page.line.Goals as goal

pub returns : goal.returns
unfolding line
returns c =
    says_both (rw c.channel.ensures at c.number.ensures)
    (says_both (rw c.channel-2.ensures at c.number-2.ensures) (rw c.channel-3.ensures at c.number-3.ensures))
