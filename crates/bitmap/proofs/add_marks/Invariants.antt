-- `add_marks` meets its contract: adding the marks from here on leaves what adding all from the first does.
-- Assumes nothing.
use mathlib.Core.Path.{◌≡◌}
use Prim.Native.Nat.{◌-◌}
use Rattle.bitmap.specs.Bits.{with_marks}
use Rattle.bitmap.proofs.add_marks.Given as goal

abbrev pub invariant-loop-k : goal.invariant-loop-k
invariant-loop-k l = with_marks l.s l.at l.marks l.k (l.past - l.k) ≡ with_marks l.initial.s l.at l.marks l.first (l.past - l.first)
