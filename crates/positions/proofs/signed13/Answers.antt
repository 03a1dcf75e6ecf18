-- `signed13` meets its contract: the 13 bits turned by half their range, and that half taken away, are the signed number, which fits an `i32`.
-- Assumes nothing.
use mathlib.Core.Path.{subst⁻¹, ◌∙◌}
use lib.IntN.{ℤ}
use mir.Syntax.{w32}
use mir.Val.{SFits}
use mir.Facts.{to_z-of_z}
use Rattle.positions.proofs.PositionLaws.{turned-value, signed-fits}
use Rattle.positions.proofs.signed13.Goals as goal

pub overflow_sub-result : goal.overflow_sub-result
overflow_sub-result c = subst⁻¹ (λ (z : ℤ). SFits w32 z) (turned-value c.args.raw) (signed-fits c.args.raw)

pub returns : goal.returns
returns c = to_z-of_z (overflow_sub-result c) ∙ turned-value c.args.raw
