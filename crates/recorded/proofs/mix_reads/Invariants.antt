-- `recorded::mix_reads` meets its contract: what the reads that are left make of the sum now is what all of them make of it at the start.
-- Assumes nothing.
use mathlib.Core.Path.{◌≡◌}
use Prim.Native.Nat.{◌+◌, ◌-◌, ◌*◌}
use Rattle.basics.specs.Each.{each}
use Rattle.recorded.specs.Recorded.{mixed_word, reads_from}
use Rattle.recorded.proofs.mix_reads.Given as goal

abbrev pub invariant-loop-i : goal.invariant-loop-i
invariant-loop-i l = each mixed_word (reads_from l.e (l.offset + 4 * l.i) (l.words - l.i)) l.h ≡ each mixed_word (reads_from l.e l.offset l.words) l.sum
