-- The registers of a launch write's command, by its number; and registers that there are, or are not.
-- Assumes nothing.
use mathlib.Core.Path.{◌≡◌, refl}
use mathlib.Core.Option.{none, some}
use Prim.Native.Nat.{ℕ}
use native.Mathlib.Omega.{arith}
use Rattle.registers.specs.declared.Regs.{Regs}
use Rattle.registers.specs.Regs.{put_reg}
use Rattle.bank.specs.Bank.{stored}
use Rattle.cuts.specs.Cut.{number}
use Rattle.engine.specs.declared.Engine.{Engine}
use Rattle.engine.specs.Step.{regs, stored_in}
use Rattle.engine.specs.Orders.{launching}
use Rattle.acts.proofs.Cases.{by-number}

module _ (e : Engine) (d : ℕ) where
  pub launch-number : number (launching e d) ≡ number (regs e)
  unfolding launching stored_in stored put_reg
  launch-number = by-number (λ (r : Regs). number r ≡ number (regs e)) (number (regs e)) _ _ _ _ _ _ _ (λ _. refl) (λ _. refl) (λ _. refl) (λ _. refl) (λ _. refl) (λ _ _. refl) (λ _. refl)

  pub launch-copy : number (regs e) ≡ 1 → launching e d ≡ regs (stored_in e 0x5c d)
  unfolding launching
  launch-copy n = rw n

  pub launch-host : number (regs e) ≡ 3 → launching e d ≡ regs e
  unfolding launching
  launch-host n = rw n

pub the_same : (r s : Regs) → some r ≡ some s → r ≡ s
the_same r s e = cc

pub nothing-ordered : {A : Type 0} (r : Regs) → none ≡ some r → A
nothing-ordered r e = let z : ◌≡◌ {A = ℕ} 0 1 = cc in absurd (omega arith)
