-- `bits::mono_rows` meets its contract: each turn copies the next row.
-- Assumes nothing.
use native.Mathlib.Omega.{arith}
use mathlib.Core.Path.{refl}
use Prim.Native.Nat.{◌+◌}
use Rattle.paint.proofs.Loops.{rows-begin, rows-room, rows-go-on, rows-ended}
use Rattle.bits.proofs.BitLaws.{mono-line}
use Rattle.bits.proofs.mono_rows.Goals as goal

pub loop-j-init : goal.loop-j-init
loop-j-init c = rows-begin

pub mono_row-n-requires : goal.mono_row-n-requires
mono_row-n-requires c =
    let left = c.loop-j.invariant in
    let p = c.requires in
    let more = c.loop-j-test.true in
    rw left.left.long (mono-line p _ more (rows-room left (omega (arith, p.wide)) (omega (arith, p.high)) more))

pub loop-j-preserved : goal.loop-j-preserved
loop-j-preserved c =
    let k = c.loop-j in
    rows-go-on k.invariant (c.args.t.y + k.j) c.loop-j-test.true refl c.mono_row-n.ensures

pub shape_of-mem : goal.shape_of-mem
shape_of-mem c = c.loop-j.invariant.left.long

pub returns : goal.returns
returns c = rows-ended c.loop-j.invariant c.loop-j-test.false
