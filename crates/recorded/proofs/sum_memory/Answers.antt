-- `recorded::sum_memory` meets its contract: what the bytes that are left make of the sum now is what all of them make of it at the start.
-- Assumes nothing.
use mathlib.Core.Path.{◌∙◌}
use Rattle.basics.proofs.EachLaws.{each_again, each-ends}
use Rattle.recorded.specs.Recorded.{mixed}
use Rattle.recorded.proofs.sum_memory.Goals as goal

pub loop-byte-preserved : goal.loop-byte-preserved
loop-byte-preserved c =
    let k = c.loop-byte in
    each_again mixed c.args.mem.now k.byte-index k.h _ c.loop-byte-test.true c.mix_byte-h.ensures ∙ k.invariant

pub returns : goal.returns
returns c =
    let k = c.loop-byte in
    each-ends mixed c.args.mem.now k.byte-index k.h c.loop-byte-test.false ∙ k.invariant
