-- `rimebarrow_read` meets its contract: by whether the bytes are a state, and by what the offset names.
-- Assumes nothing.
use borrow.Author.Rules.{rules}
use mathlib.Core.Logic.{◌⊎◌, ⊎_elim}
use mathlib.Core.Path.{◌≡◌, sym, ◌∙◌}
use native.Mathlib.Omega.{arith}
use Rattle.registers.specs.declared.Place.TheVariants.{Launch, Nowhere}
use Rattle.registers.proofs.OffsetLaws.{pattern-word}
use Rattle.state.proofs.Back.{opened}
use Rattle.capi.proofs.Writes.{register-word}
use Rattle.capi.proofs.ReadOpen.{not-read, register-read, pattern-read, launch-read, nowhere-read}
use Rattle.capi.proofs.rimebarrow_read.Goals as goal

pub returns-then-not-is_state : goal.returns-then-not-is_state
returns-then-not-is_state c = not-read _ _ (sym c.is_state.ensures.0 ∙ c.if-not-is_state.true)

pub word_at-requires : goal.word_at-requires
word_at-requires c = let w = register-word _ (sym c.find_place.ensures ∙ c.in-Register.is) in omega (arith, w.0, w.1, (opened c.args.state.now (sym c.is_state.ensures.0 ∙ c.if-not-is_state.false) (c.is_state.ensures.1 c.if-not-is_state.false)).size)

pub overflow_add-at : goal.overflow_add-at
overflow_add-at c = let w = pattern-word _ (sym c.find_place.ensures ∙ c.in-Pattern.is) in omega (arith, w.1)

pub word_at-requires-in-Pattern : goal.word_at-requires-in-Pattern
word_at-requires-in-Pattern c = let w = pattern-word _ (sym c.find_place.ensures ∙ c.in-Pattern.is) in omega (arith, w.1, (opened c.args.state.now (sym c.is_state.ensures.0 ∙ c.if-not-is_state.false) (c.is_state.ensures.1 c.if-not-is_state.false)).size)

pub returns-in-Register : goal.returns-in-Register
returns-in-Register c = c.from.ensures ∙ c.word_at.ensures ∙ register-read _ _ (sym c.is_state.ensures.0 ∙ c.if-not-is_state.false) (sym c.find_place.ensures ∙ c.in-Register.is)

pub returns-in-Pattern : goal.returns-in-Pattern
returns-in-Pattern c = c.from-in-Pattern.ensures ∙ c.word_at-in-Pattern.ensures ∙ pattern-read _ _ (sym c.is_state.ensures.0 ∙ c.if-not-is_state.false) (sym c.find_place.ensures ∙ c.in-Pattern.is)

pub returns-in-Launch : goal.returns-in-Launch
returns-in-Launch c =
    let state = sym c.is_state.ensures.0 ∙ c.if-not-is_state.false in
    let unread : (c.find_place.result ≡ Launch) ⊎ (c.find_place.result ≡ Nowhere) = search (rules, c.in-Launch.is) in
    ⊎_elim (λ e. launch-read _ _ state (sym c.find_place.ensures ∙ e)) (λ e. nowhere-read _ _ state (sym c.find_place.ensures ∙ e)) unread
