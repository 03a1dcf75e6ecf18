-- `pours::put_wholes` meets its contract: the pixels of the words passed are poured.
-- Assumes nothing.
use native.Mathlib.Omega.{arith}
use mathlib.Core.Path.{◌≡◌}
use Prim.Native.Nat.{◌+◌, ◌*◌, ◌/◌, ◌≤◌}
use native.Mathlib.Nat.{mul-zero, mul-le-mul_right, div-le_self}
use lib.ListN.{length}
use Rattle.pours.proofs.Spilt.{poured-none}
use Rattle.pours.proofs.Turns.{word-turn}
use Rattle.pours.proofs.put_wholes.Goals as goal

pub loop-word-init : goal.loop-word-init
loop-word-init g c = (rw mul-zero poured-none, omega arith)

pub overflow_add-r : goal.overflow_add-r
overflow_add-r g c =
    let i = c.loop-word.word-index in
    let each : 4 / g.row.B ≤ 4 = div-le_self 4 g.row.B in
    omega (arith, c.loop-word.invariant.0.few, mul-le-mul_right i each, c.unlike_word-r.ensures.1)

pub loop-word-preserved : goal.loop-word-preserved
loop-word-preserved g c =
    let p = c.requires in
    let k = c.loop-word in
    let i = k.word-index in
    let e = c.unlike_word-r.ensures in
    let a : k.a ≡ c.args.at + 4 * i = k.invariant.1 in (
      word-turn i (omega (arith, c.type_inv.words i)) (omega arith) (rw a at c.put_bytes.ensures) p.0.some p.0.few p.1 k.invariant.0 (rw a at c.word_at-old.ensures) e.0 e.1,
      omega arith,
    )

pub shape_of-mem : goal.shape_of-mem
shape_of-mem g c = c.loop-word.invariant.0.long

pub returns : goal.returns
returns g c =
    let end : c.loop-word.word-index ≡ length c.args.words.now = omega arith in
    rw (← end) c.loop-word.invariant.0.done
