-- `recorded::sum_memory` meets its contract: what the bytes that are left make of the sum now is what all of them make of it at the start.
-- Assumes nothing.
use mathlib.Core.Path.{◌≡◌}
use lib.ListN.{drop}
use Rattle.basics.specs.Each.{each}
use Rattle.recorded.specs.Recorded.{mixed, memory_sum}
use Rattle.recorded.proofs.sum_memory.Given as goal

abbrev pub invariant-loop-byte : goal.invariant-loop-byte
invariant-loop-byte l = each mixed (drop l.byte-index l.mem) l.h ≡ memory_sum l.mem
