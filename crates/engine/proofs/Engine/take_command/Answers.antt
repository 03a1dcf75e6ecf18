-- `engine::Engine::take_command` meets its contract: by bit 8.
-- Assumes nothing.
use mathlib.Core.Path.{◌≡◌, refl, ap, ap₂, ◌∙◌}
use borrow.Author.Tests.{eq-eqb, ne_eqb}
use Rattle.bank.specs.declared.Bank.{Bank}
use Rattle.bank.specs.Bank.{stored}
use Rattle.acts.specs.declared.Blit.{Blit}
use Rattle.acts.specs.Deed.{bank_of, carrying}
use Rattle.engine.specs.Step.{stored_in, judging, carried, commanded}
use Rattle.engine.proofs.Laws.{settled-as}
use Rattle.engine.proofs.Engine.take_command.Goals as goal

pub returns-then-word-eq1 : goal.returns-then-word-eq1
unfolding commanded carried stored_in stored
returns-then-word-eq1 c =
    let a = c.args in
    let e = a.self in
    let regs = c.store.result.regs in
    let resting = c.no_blit.result in
    let next = bank_of regs e.bank.pattern in
    let kept : next ≡ stored e.bank 0x70 a.word = ap (λ (b : Bank). bank_of b.regs e.bank.pattern) c.store.ensures in
    rw (eq-eqb _ _ c.if-word-eq1.true)
    (settled-as e regs c.carry-act.result _ (carrying next resting a.mem.now) next resting a.mem.now (λ _. refl) c.settle.ensures c.carry-act.ensures
    ∙ ap₂ (λ (b : Bank) (k : Blit). judging e e a.mem.now (carrying b k a.mem.now)) kept c.no_blit.ensures)

pub returns : goal.returns
unfolding commanded stored_in
returns c = simp (ne_eqb _ _ c.if-word-eq1.false, c.store.ensures, c.no_blit.ensures)
