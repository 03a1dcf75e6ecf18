-- The command by its name and by its number: data for a host blit, or another.
-- Assumes nothing.
use mathlib.Core.Path.{◌≡◌}
use Rattle.registers.specs.declared.Regs.{Regs}
use Rattle.cuts.specs.Cut.{number}
use Rattle.acts.specs.declared.Operation.{Operation}
use Rattle.acts.specs.declared.Operation.TheVariants.{Nop, Copy, Stretch, HostBlit, Fill, Line, NotBuilt}
use Rattle.acts.specs.Operation.{operation_of}
use Rattle.acts.proofs.Cases.{by-number}

pub host-number : (r : Regs) → HostBlit ≡ operation_of r → number r ≡ 3
host-number r =
    by-number (λ (o : Operation). HostBlit ≡ o → number r ≡ 3) (number r) Nop Copy Stretch HostBlit Fill Line NotBuilt
    (λ _ e. cc) (λ _ e. cc) (λ _ e. cc) (λ z _. z) (λ _ e. cc) (λ _ _ e. cc) (λ _ e. cc)

pub other-number : (r : Regs) → (operation_of r ≡ HostBlit → ⊥) → number r ≡ 3 → ⊥
other-number r no' z = no' (rw z)
