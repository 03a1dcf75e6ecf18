-- `recorded::fill` meets its contract: the bytes passed are those of the start.
-- Assumes nothing.
use mathlib.Core.Path.{◌≡◌}
use Prim.Native.Nat.{ℕ, ◌<◌}
use lib.ListN.{length, get_or}
use Rattle.recorded.specs.Recorded.{start_byte}
use Rattle.recorded.proofs.fill.Given as goal

abbrev pub invariant-loop-i : goal.invariant-loop-i
invariant-loop-i l = (length l.mem ≡ length l.initial.mem) × ((k : ℕ) → k < l.i → get_or l.mem k 0 ≡ start_byte k l.seed)
