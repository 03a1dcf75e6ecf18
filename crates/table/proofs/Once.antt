-- The contracts of the verdicts allow one result each.
-- Assumes nothing.
use Rattle.std.proofs.Common.{◌≡◌, ℕ, cond, refl, sym, ap, ◌∙◌}
use Rattle.std.specs.Prelude.{eqb, Result, Ok, Err}
use Rattle.table.specs.declared.Fault.{Fault}
use Rattle.table.specs.declared.Fault.TheVariants.{NotBuilt, Format, Host, Off, Meet}
use Rattle.table.specs.Fault.{verdict_number}

-- the fault of a row
unfoldable pub fault_of : ℕ → Fault
fault_of n = cond (eqb n 4) NotBuilt (cond (eqb n 5) Format (cond (eqb n 6) Host (cond (eqb n 7) Off Meet)))

-- a verdict out of its number
verdict_of : ℕ → Result (Unit {0}) Fault
verdict_of n = cond (eqb n 0) (Ok tt) (Err (fault_of n))

verdict-back : (x : Result (Unit {0}) Fault) → verdict_of (verdict_number x) ≡ x
unfolding verdict_of fault_of
verdict-back (Ok tt) = refl
verdict-back (Err NotBuilt) = refl
verdict-back (Err Format) = refl
verdict-back (Err Host) = refl
verdict-back (Err Off) = refl
verdict-back (Err Meet) = refl

pub verdict-once : (n : ℕ) (x y : Result (Unit {0}) Fault) → verdict_number x ≡ n → verdict_number y ≡ n → x ≡ y
verdict-once n x y p q = sym (verdict-back x) ∙ ap verdict_of (p ∙ sym q) ∙ verdict-back y
