-- `picture::say_refusal` meets its contract: the words and the two numbers, one after the other.
-- Assumes nothing.
use Rattle.picture.specs.Player.{refusal}
use Rattle.ppm.proofs.TextLaws.{says_both}
use Rattle.picture.proofs.say_refusal.Goals as goal

pub returns : goal.returns
unfolding refusal
returns c = says_both c.say.ensures (says_both c.number.ensures (says_both c.say-2.ensures c.number-2.ensures))
