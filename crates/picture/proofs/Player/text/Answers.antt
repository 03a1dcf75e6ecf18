-- `picture::Player::text` meets its contract: what is said on a page from its start stays in the buffer.
-- Assumes nothing.
use Rattle.std.proofs.Common.{rules}
use Rattle.ppm.specs.Text.{page}
use Rattle.picture.specs.Player.{sheet, printed}
use Rattle.ppm.proofs.TextLaws.{text-within}
use Rattle.picture.proofs.Player.text.Goals as goal

pub returns-clause-within : goal.returns-clause-within
returns-clause-within c = text-within (printed (sheet c.args.self c.args.mem.now)) c.args.out.now (page _ c.print.new.page.used) (search rules)
