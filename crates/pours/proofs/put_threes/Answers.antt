-- `pours::put_threes` meets its contract: the pixels of the words passed, three at a time, are poured.
-- Assumes nothing.
use borrow.Author.Rules.{rules}
use native.Mathlib.Omega.{arith}
use mathlib.Core.Path.{◌≡◌, refl, ap}
use Prim.Native.Nat.{◌+◌, ◌*◌, ◌/◌}
use Rattle.surface.proofs.Bytes.{length-written}
use lib.ListN.{length}
use Rattle.pours.proofs.Spilt.{poured-none}
use Rattle.pours.proofs.Turns.{threes-turn}
use Rattle.pours.proofs.put_threes.Goals as goal

pub loop-t-init : goal.loop-t-init
loop-t-init c = poured-none

pub put_bytes-requires-in-loop-t : goal.put_bytes-requires-in-loop-t
put_bytes-requires-in-loop-t c = let one = simp length-written at (ap length c.put_bytes.ensures) in search rules

pub put_bytes-requires-in-loop-t-2 : goal.put_bytes-requires-in-loop-t-2
put_bytes-requires-in-loop-t-2 c =
    let one = simp length-written at (ap length c.put_bytes.ensures) in
    let two = simp length-written at (ap length c.put_bytes-in-loop-t.ensures) in
    search rules

pub loop-t-preserved : goal.loop-t-preserved
loop-t-preserved c =
    let i = 3 * c.loop-t.t in
    let given = c.type_inv.words in
    let e = c.unlike_threes-r.ensures in
    threes-turn i c.loop-t.t refl (omega (arith, given i)) (omega (arith, given (i + 1))) (omega (arith, given (i + 2))) (omega arith)
    c.put_bytes.ensures c.put_bytes-in-loop-t.ensures c.put_bytes-in-loop-t-2.ensures
    c.loop-t.invariant c.word_at-x.ensures c.word_at-y.ensures c.word_at-z.ensures e.0 e.1

pub shape_of-mem : goal.shape_of-mem
shape_of-mem c = c.loop-t.invariant.long

pub returns : goal.returns
returns c =
    let end : c.loop-t.t ≡ length c.args.words.now / 3 = omega arith in
    rw (← end) c.loop-t.invariant.done
