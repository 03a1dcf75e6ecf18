-- `acts::end_feed` meets its contract: by whether the blit waits.
-- Assumes nothing.
use mathlib.Core.Path.{◌∙◌}
use Rattle.acts.specs.Fed.{feed_ended}
use Rattle.acts.proofs.end_feed.Goals as goal

pub returns : goal.returns
unfolding feed_ended
returns c = let p = c.args.bank.pattern in rw c.if-blit.false (c.with_ends.ensures p ∙ c.end_rect.ensures p)
