-- `ink::values_at` meets its contract: before the first row every value is 0.
-- Assumes nothing.
use mathlib.Core.Path.{refl}
use native.Mathlib.Omega.{arith}
use Rattle.ink.proofs.PatternLaws.{zeros}
use Rattle.ink.proofs.values_at.Goals as goal

pub loop-j-init : goal.loop-j-init
loop-j-init c = (refl, λ l h. absurd (omega arith), λ l h. zeros 64 l)
