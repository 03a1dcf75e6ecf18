-- `bits::put_run` meets its contract: each turn puts the next pixel of the row, from where it begins.
-- Assumes nothing.
use mathlib.Core.Bool.{false}
use Prim.Native.Nat.{◌+◌, ◌-◌}
use Rattle.paint.proofs.Loops.{RowLeft}
use Rattle.bits.specs.Bits.{coloured, bit_of}
use Rattle.bits.proofs.put_run.Given as goal

abbrev pub invariant-loop-i : goal.invariant-loop-i
invariant-loop-i l = RowLeft l.p.target (λ q now. coloured l.p (bit_of l.byte (l.k + (q.x - l.x)))) false l.x l.m l.y l.initial.mem l.initial.r l.i l.mem l.r
