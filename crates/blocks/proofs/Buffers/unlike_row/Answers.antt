-- `blocks::Buffers::unlike_row` meets its contract: those of the first i pixels are counted.
-- Assumes nothing.
use native.Mathlib.Omega.{arith}
use mathlib.Core.Path.{refl}
use Prim.Native.Nat.{◌+◌, ◌≤◌}
use Rattle.blocks.proofs.Others.{told_none, told_part, told-few, part-part}
use Rattle.blocks.proofs.Buffers.unlike_row.Goals as goal

pub loop-i-init : goal.loop-i-init
loop-i-init c = told_none

pub unlike_part-r-requires : goal.unlike_part-r-requires
unlike_part-r-requires c = (part-part c.requires c.loop-i.i c.min.result (omega arith), omega arith)

pub overflow_add-r : goal.overflow_add-r
overflow_add-r c =
    let fits : c.loop-i.i + c.min.result ≤ c.args.p.w = omega arith in
    omega (arith, told-few (told_part c.loop-i.invariant c.min.result c.unlike_part-r.ensures refl fits), c.requires.wide)

pub loop-i-preserved : goal.loop-i-preserved
loop-i-preserved c = told_part c.loop-i.invariant c.min.result c.unlike_part-r.ensures (omega arith) (omega arith)

pub returns-2 : goal.returns-2
returns-2 c = (told_part c.loop-i.invariant c.min.result c.unlike_part-r.ensures (omega arith) (omega arith)).sum
