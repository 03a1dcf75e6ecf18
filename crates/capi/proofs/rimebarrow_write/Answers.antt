-- `rimebarrow_write` meets its contract: by whether the bytes are a state, and by what the offset names.
-- Assumes nothing.
use mathlib.Core.Logic.{⊎_elim}
use mathlib.Core.Path.{sym, ◌∙◌}
use native.Mathlib.Omega.{arith}
use Rattle.registers.proofs.OffsetLaws.{pattern-word}
use Rattle.state.proofs.Back.{opened}
use Rattle.capi.proofs.Writes.{not_written, register-word, register-written, pattern-written}
use Rattle.capi.proofs.Changes.{draws-command, draws-launch, draws-nowhere}
use Rattle.capi.proofs.rimebarrow_write.Goals as goal

pub returns-then-not-is_state : goal.returns-then-not-is_state
returns-then-not-is_state c = not_written _ _ _ _ (sym c.is_state.ensures.0 ∙ c.if-not-is_state.true)

pub run-requires : goal.run-requires
run-requires c = (sym c.is_state.ensures.0 ∙ c.if-not-is_state.false, ((c.is_state.ensures.1 c.if-not-is_state.false), draws-command _ (sym c.find_place.ensures ∙ c.in-Register.is) c.if-offset-eq112.true))

pub put_register-requires : goal.put_register-requires
put_register-requires c =
    let w = register-word _ (sym c.find_place.ensures ∙ c.in-Register.is) in
    ((opened c.args.state.now (sym c.is_state.ensures.0 ∙ c.if-not-is_state.false) (c.is_state.ensures.1 c.if-not-is_state.false)).size, omega (arith, w.0, w.1))

pub overflow_add-at : goal.overflow_add-at
overflow_add-at c = let w = pattern-word _ (sym c.find_place.ensures ∙ c.in-Pattern.is) in omega (arith, w.1)

pub put_plain-requires : goal.put_plain-requires
put_plain-requires c = let w = pattern-word _ (sym c.find_place.ensures ∙ c.in-Pattern.is) in ((opened c.args.state.now (sym c.is_state.ensures.0 ∙ c.if-not-is_state.false) (c.is_state.ensures.1 c.if-not-is_state.false)).size, omega (arith, w.1))

pub run-requires-in-Launch : goal.run-requires-in-Launch
run-requires-in-Launch c = (
  sym c.is_state.ensures.0 ∙ c.if-not-is_state.false,
  (
    c.is_state.ensures.1 c.if-not-is_state.false,
    ⊎_elim (λ e. draws-launch _ (sym c.find_place.ensures ∙ e)) (λ e. draws-nowhere _ (sym c.find_place.ensures ∙ e)) c.in-Launch.is,
  ),
)

pub returns-else-offset-eq112 : goal.returns-else-offset-eq112
returns-else-offset-eq112 c =
    let a = c.args in
    register-written c.args.state.now c.args.memory.now a.offset a.word (sym c.is_state.ensures.0 ∙ c.if-not-is_state.false) (c.is_state.ensures.1 c.if-not-is_state.false) (omega arith) (sym c.find_place.ensures ∙ c.in-Register.is) c.if-offset-eq112.false c.put_register.ensures

pub returns-in-Pattern : goal.returns-in-Pattern
returns-in-Pattern c =
    pattern-written c.args.state.now c.args.memory.now c.args.offset c.args.word (sym c.is_state.ensures.0 ∙ c.if-not-is_state.false) (c.is_state.ensures.1 c.if-not-is_state.false) (sym c.find_place.ensures ∙ c.in-Pattern.is) c.put_plain.ensures
