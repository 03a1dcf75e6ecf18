-- `bits::mono_run` meets its contract: each turn takes the pixels of the row that one byte of its source gives.
-- Assumes nothing.
use mathlib.Core.Bool.{false}
use Prim.Native.Nat.{◌+◌, ◌-◌}
use Rattle.paint.proofs.Loops.{RowLeft}
use Rattle.bits.specs.Bits.{mono_giving}
use Rattle.bits.proofs.mono_run.Given as goal

abbrev pub invariant-loop-i : goal.invariant-loop-i
invariant-loop-i g l = RowLeft l.t.plain.target (λ q now. mono_giving l.t now q) false l.t.x l.w (l.t.y + l.j) l.initial.mem l.initial.r l.i l.mem l.r

abbrev pub decreases-loop-i : goal.decreases-loop-i
decreases-loop-i g l = l.w - l.i
