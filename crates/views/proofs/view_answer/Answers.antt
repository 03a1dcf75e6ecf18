-- `views::view_answer` meets its contract: each return goes by the tests that led there.
-- Assumes nothing.
use Rattle.formats.proofs.FormatLaws.{target_small}
use Rattle.views.proofs.view_answer.Goals as goal

pub rect_on-requires : goal.rect_on-requires
rect_on-requires c = rw c.target_of-s.ensures (target_small c.args.base c.args.format)
