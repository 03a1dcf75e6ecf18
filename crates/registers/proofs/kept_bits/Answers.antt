-- `kept_bits` meets its contract: in an arm the offset is one of the arm's numbers, where `kept` computes.
-- Assumes nothing.
use borrow.Author.Tests.{ne_eqb}
use mathlib.Core.List.{[], ◌∷◌}
use mathlib.Core.Logic.{⊎_elim}
use Rattle.registers.specs.Kept.{kept}
use Rattle.registers.proofs.Arms.{none}
use Rattle.registers.proofs.kept_bits.Goals as goal

pub returns-in-8 : goal.returns-in-8
unfolding kept
returns-in-8 c = ⊎_elim (λ e. rw e) (⊎_elim (λ e. rw e) (⊎_elim (λ e. rw e) (λ e. rw e))) c.in-8.is

pub returns-in-16 : goal.returns-in-16
unfolding kept
returns-in-16 c = ⊎_elim (λ e. rw e) (λ e. rw e) c.in-16.is

pub returns-in-20 : goal.returns-in-20
unfolding kept
returns-in-20 c = rw c.in-20.is

pub returns-in-84 : goal.returns-in-84
unfolding kept
returns-in-84 c = rw c.in-84.is

pub returns-in-64 : goal.returns-in-64
unfolding kept
returns-in-64 c = ⊎_elim (λ e. rw e) (⊎_elim (λ e. rw e) (⊎_elim (λ e. rw e) (⊎_elim (λ e. rw e) (λ e. rw e)))) c.in-64.is

pub returns-in-24 : goal.returns-in-24
unfolding kept
returns-in-24 c = ⊎_elim (λ e. rw e) (⊎_elim (λ e. rw e) (⊎_elim (λ e. rw e) (⊎_elim (λ e. rw e) (λ e. rw e)))) c.in-24.is

pub returns-in-56 : goal.returns-in-56
unfolding kept
returns-in-56 c = rw c.in-56.is

pub returns-in_default : goal.returns-in_default
unfolding kept
returns-in_default c =
    let r = c.in_default.in_default-own.rest in
    simp (
      none _ 0x08 (0x0c ∷ 0x4c ∷ 0x50 ∷ []) r.0.0.0.0.0.0.1,
      none _ 0x10 (0x34 ∷ []) r.0.0.0.0.0.1,
      ne_eqb _ _ r.0.0.0.0.1,
      ne_eqb _ _ r.0.0.0.1,
      none _ 0x40 (0x58 ∷ 0x5c ∷ 0x68 ∷ 0x6c ∷ []) r.0.0.1,
      none _ 0x18 (0x1c ∷ 0x20 ∷ 0x24 ∷ 0x30 ∷ []) r.0.1,
      ne_eqb _ _ r.1,
    )
