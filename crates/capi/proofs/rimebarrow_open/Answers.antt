-- `rimebarrow_open` meets its contract: a cleared state, and the words that are not 0.
-- Assumes nothing.
use Rattle.engine.specs.Step.{fresh_engine}
use Rattle.state.specs.Layout.{slot}
use Rattle.capi.proofs.ReadOpen.{not_opened, opened-fresh}
use Rattle.capi.proofs.rimebarrow_open.Goals as goal

pub returns-then-state-ne396 : goal.returns-then-state-ne396
returns-then-state-ne396 c = not_opened _ _ c.if-state-ne396.true

pub returns : goal.returns
unfolding slot fresh_engine
returns c =
    opened-fresh c.args.state.now c.args.size c.if-state-ne396.false (rw (c.put_word-3.ensures.0, c.put_word-2.ensures.0, c.put_word.ensures.0, c.clear.ensures))
