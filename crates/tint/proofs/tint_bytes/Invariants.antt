-- `tint::tint_bytes` meets its contract: what remains of the bytes, changed in the memory now, is all of them changed in the memory at the start.
-- Assumes nothing.
use mathlib.Core.Path.{◌≡◌}
use Prim.Native.Nat.{◌+◌, ◌-◌}
use lib.ListN.{length}
use Rattle.tint.specs.Masking.{blended}
use Rattle.tint.proofs.tint_bytes.Given as goal

abbrev pub invariant-loop-i : goal.invariant-loop-i
invariant-loop-i l =
    (blended l.keep l.flip (l.from + l.i) (l.at + l.i) (l.n - l.i) l.mem ≡ blended l.keep l.flip l.from l.at l.n l.initial.mem) × (length l.mem ≡ length l.initial.mem)
