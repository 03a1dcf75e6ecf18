-- `picture::Player::play` meets its contract: the parts of the engine's step.
-- Assumes nothing.
use Rattle.picture.proofs.PlayerLaws.{wrote_by}
use Rattle.picture.proofs.Player.play.Goals as goal

pub returns : goal.returns
returns c =
    let a = c.args in
    wrote_by a.self a.window c.write-answer.result.engine c.write-answer.new.mem c.write-answer.result.answer c.number_of-refused.result c.count.result _
    c.write-answer.ensures c.number_of-refused.ensures c.count.ensures
