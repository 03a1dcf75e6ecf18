-- `plan::quads_of` meets its contract: the values passed are those of their codes, bits and pixels.
-- Assumes nothing.
use mathlib.Core.Path.{◌≡◌}
use Prim.Native.Nat.{ℕ, ◌+◌, ◌*◌, ◌/◌, ◌%◌, ◌<◌}
use lib.ListN.{length, get_or}
use Rattle.raster.specs.Masks.{muxed}
use Rattle.plan.proofs.quads_of.Given as goal

abbrev pub invariant-loop-i : goal.invariant-loop-i
invariant-loop-i l = (length l.quads ≡ 128) × ((k : ℕ) → k < l.i → get_or l.quads k 0 ≡ muxed (get_or l.values (k / 4 % 8) 0) (get_or l.masks (k / 32 * 8 + k % 4 + 4) 0) (get_or l.masks (k / 32 * 8 + k % 4) 0))
