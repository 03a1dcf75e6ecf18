-- `tint::tint_bytes` meets its contract: what remains of the bytes, changed in the memory now, is all of them changed in the memory at the start.
-- Assumes nothing.
use mathlib.Core.Path.{sym, ◌∙◌}
use Prim.Native.Nat.{◌+◌}
use lib.ListN.{length-set}
use Rattle.tint.specs.Masking.{masked}
use Rattle.tint.proofs.ByteLaws.{blended-turn, blended-none}
use Rattle.tint.proofs.tint_bytes.Goals as goal

pub loop-i-preserved : goal.loop-i-preserved
unfolding masked
loop-i-preserved c =
    let a = c.args in
    let l = c.loop-i in
    (blended-turn a.keep.now a.flip.now a.from a.at a.n l.i l.mem c.loop-i-test.true ∙ l.invariant.0, simp length-set l.invariant.1)

pub returns : goal.returns
returns c =
    let a = c.args in
    let l = c.loop-i in
    sym (blended-none a.keep.now a.flip.now (a.from + l.i) (a.at + l.i) a.n l.i l.mem c.loop-i-test.false) ∙ l.invariant.0
