-- Every register of a fresh bank holds only bits that it keeps, and a store leaves it so.
-- Assumes nothing.
use Prim.Native.Nat.{ℕ}
use mathlib.Core.Bool.{Bool, true, false, cond}
use mathlib.Core.Path.{◌≡◌, refl, subst, subst⁻¹}
use borrow.Author.Tests.{eqb-true}
use lib.Dec.{eqb}
use Rattle.bank.specs.declared.Bank.{Bank}
use Rattle.registers.specs.declared.Place.TheVariants.{Register}
use Rattle.registers.specs.Regs.{get_reg}
use Rattle.registers.specs.Kept.{kept}
use Rattle.registers.specs.Offsets.{place_of}
use Rattle.bank.specs.Bank.{fresh_bank, stored, patterned}
use Rattle.registers.proofs.KeptLaws.{kept-once, kept-zero}
use Rattle.registers.proofs.RegsLaws.{get-zero}
use Rattle.bank.proofs.BackLaws.{register-after}

pub record Kept (b : Bank) : Type 0 where
  pub each : (o : ℕ) → place_of o ≡ Register → kept o (get_reg o b.regs) ≡ get_reg o b.regs

pub fresh_kept : Kept fresh_bank
unfolding fresh_bank
fresh_kept = record { each = λ o e. subst⁻¹ (λ v. kept o v ≡ v) (get-zero o) (kept-zero o) }

still : (o d a v : ℕ) → kept a v ≡ v → (t : Bool) → eqb o a ≡ t → kept a (cond t (kept o d) v) ≡ cond t (kept o d) v
still o d a v k true q = subst (λ x. kept x (kept o d) ≡ kept o d) (eqb-true o a q) (kept-once o d)
still o d a v k false q = k

pub stored-kept : (b : Bank) (o d : ℕ) → Kept b → Kept (stored b o d)
stored-kept b o d k =
    record { each = λ a e. subst⁻¹ (λ v. kept a v ≡ v) (register-after b o d a e) (still o d a (get_reg a b.regs) (k.each a e) (eqb o a) refl) }

pub patterned-kept : (b : Bank) (i d : ℕ) → Kept b → Kept (patterned b i d)
unfolding patterned
patterned-kept b i d k = record { each = k.each }
