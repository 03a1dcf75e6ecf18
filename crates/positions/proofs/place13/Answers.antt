-- `place13` meets its contract: the signed number, counted from the origin, is a natural one that fits.
-- Assumes nothing.
use mathlib.Core.Path.{◌≡◌, ap, subst⁻¹, ◌∙◌}
use native.Mathlib.Nat.{lt_trans}
use native.Mathlib.Omega.{arith}
use lib.Dec.{lit<}
use lib.IntN.{ℤ, pos, ◌+ℤ◌, nat_abs}
use mir.Syntax.{w32}
use mir.Val.{to_z, of_z, SFits}
use mir.Facts.{to_z-of_z}
use Rattle.surface.specs.Pixels.{origin}
use Rattle.positions.specs.Position.{placed}
use Rattle.positions.proofs.PositionLaws.{origin-signed}
use Rattle.positions.proofs.place13.Goals as goal

sum : (c : goal.After-signed13) → to_z w32 origin +ℤ to_z w32 (of_z w32 c.signed13.result) ≡ pos (placed c.args.raw)
sum c = ap (λ z. pos origin +ℤ z) (to_z-of_z {w = w32} (record { sfits = c.signed13.type_inv }) ∙ c.signed13.ensures) ∙ origin-signed c.args.raw

fits : (c : goal.After-signed13) → SFits w32 (to_z w32 origin +ℤ to_z w32 (of_z w32 c.signed13.result))
fits c = subst⁻¹ (λ (z : ℤ). SFits w32 z) (sum c) (record { sfits = lt_trans {m = 20480} (omega arith) (lit< tt) })

pub overflow_add-result : goal.overflow_add-result
overflow_add-result c = fits c

pub overflow_cast-result : goal.overflow_cast-result
overflow_cast-result c = rw (to_z-of_z (fits c) ∙ sum c) (tt, record { fits = lt_trans {m = 20480} (omega arith) (lit< tt) })

pub returns : goal.returns
returns c = ap nat_abs (to_z-of_z (fits c) ∙ sum c)
