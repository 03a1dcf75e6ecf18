-- `set_bits` meets its contract: setting the bits from here on leaves what setting all from the first does.
-- Assumes nothing.
use mathlib.Core.Path.{◌≡◌}
use Prim.Native.Nat.{◌-◌}
use Rattle.bitmap.specs.Bits.{with_bits}
use Rattle.bitmap.proofs.set_bits.Given as goal

abbrev pub invariant-loop-k : goal.invariant-loop-k
invariant-loop-k l = with_bits l.s l.at l.k (l.past - l.k) ≡ with_bits l.initial.s l.at l.first (l.past - l.first)
