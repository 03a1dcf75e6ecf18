-- `ink::row_values` meets its contract: the columns passed have their values.
-- Assumes nothing.
use mathlib.Core.Path.{◌≡◌}
use Prim.Native.Nat.{ℕ, ◌<◌}
use lib.ListN.{length, get_or}
use Rattle.ink.specs.Pattern.{pattern_in}
use Rattle.ink.proofs.row_values.Given as goal

abbrev pub invariant-loop-column : goal.invariant-loop-column
invariant-loop-column l = (length l.values ≡ 8) × ((k : ℕ) → k < l.column → get_or l.values k 0 ≡ pattern_in l.ink l.pattern k l.row)
