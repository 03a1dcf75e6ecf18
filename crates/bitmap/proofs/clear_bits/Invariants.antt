-- `clear_bits` meets its contract: clearing the bytes from here on leaves what clearing all does.
-- Assumes nothing.
use mathlib.Core.Path.{◌≡◌}
use Prim.Native.Nat.{◌+◌, ◌-◌}
use Rattle.bitmap.specs.Bits.{cleared}
use Rattle.bitmap.proofs.clear_bits.Given as goal

abbrev pub invariant-loop-i : goal.invariant-loop-i
invariant-loop-i l = cleared l.s l.i (l.at + 512 - l.i) ≡ cleared l.initial.s l.at 512
