-- `bits::mono_rows` meets its contract: each turn copies the next row.
-- Assumes nothing.
use mathlib.Core.Bool.{false}
use Rattle.paint.proofs.Loops.{RowsLeft}
use Rattle.bits.specs.Bits.{mono_giving}
use Rattle.bits.proofs.mono_rows.Given as goal

abbrev pub invariant-loop-j : goal.invariant-loop-j
invariant-loop-j l = RowsLeft l.t.plain.target (λ q now. mono_giving l.t now q) false false l.t.x l.t.y l.w l.h l.initial.mem l.j l.mem l.n
