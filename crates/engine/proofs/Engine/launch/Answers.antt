-- `engine::Engine::launch` meets its contract: what the command left, settled.
-- Assumes nothing.
use mathlib.Core.Path.{sym}
use Rattle.acts.specs.Deed.{aimed, starting}
use Rattle.acts.proofs.Numbers.{aimed-ends}
use Rattle.engine.specs.Step.{launched}
use Rattle.engine.proofs.Laws.{settled-as}
use Rattle.engine.proofs.Engine.launch.Goals as goal

pub returns : goal.returns
unfolding launched
returns c =
    let a = c.args in
    settled-as a.self a.self.bank.regs c.launch-act.result _ (starting a.self.bank a.self.blit a.mem.now a.word) (aimed a.self.bank a.word) a.self.blit a.mem.now
    (λ x. sym (aimed-ends a.self.bank a.word x)) c.settle.ensures c.launch-act.ensures
