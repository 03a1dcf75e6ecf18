-- `plan::masks_of` meets its contract: the masks passed are those of their codes.
-- Assumes nothing.
use mathlib.Core.Path.{◌≡◌}
use Prim.Native.Nat.{ℕ, ◌/◌, ◌%◌, ◌<◌}
use lib.ListN.{length, get_or}
use Rattle.raster.specs.Masks.{mask}
use Rattle.plan.specs.Plan.{code_of}
use Rattle.plan.proofs.masks_of.Given as goal

abbrev pub invariant-loop-i : goal.invariant-loop-i
invariant-loop-i l = (length l.masks ≡ 32) × ((k : ℕ) → k < l.i → get_or l.masks k 0 ≡ mask 32 (code_of l.ink (k / 8)) (k % 8))
