-- `rimebarrow_run` meets its contract: by whether the bytes are a state; decoded, run by the engine, and saved.
-- Assumes nothing.
use mathlib.Core.Path.{sym, ◌∙◌}
use Rattle.state.proofs.Back.{opened}
use Rattle.capi.proofs.Runs.{not-run, state-run}
use Rattle.capi.proofs.rimebarrow_run.Goals as goal

pub returns-then-not-is_state : goal.returns-then-not-is_state
returns-then-not-is_state c = not-run _ _ _ (sym c.is_state.ensures.0 ∙ c.if-not-is_state.true)

pub decode-e-requires : goal.decode-e-requires
decode-e-requires c = (opened c.args.state.now (sym c.is_state.ensures.0 ∙ c.if-not-is_state.false) (c.is_state.ensures.1 c.if-not-is_state.false)).size

pub save-requires : goal.save-requires
save-requires c = (opened c.args.state.now (sym c.is_state.ensures.0 ∙ c.if-not-is_state.false) (c.is_state.ensures.1 c.if-not-is_state.false)).size

pub returns : goal.returns
returns c =
    let a = c.args in
    rw c.number.ensures (state-run a.state.now a.memory.now a.run.now (sym c.is_state.ensures.0 ∙ c.if-not-is_state.false) (c.is_state.ensures.1 c.if-not-is_state.false) c.decode-e.ensures c.take_run-out.ensures c.save.ensures)
