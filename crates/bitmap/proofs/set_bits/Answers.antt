-- `set_bits` meets its contract: setting the bits from here on leaves what setting all from the first does.
-- Assumes nothing.
use mathlib.Core.Path.{refl, sym, ◌∙◌}
use Rattle.bitmap.proofs.Turns.{bits-turn, bits-done}
use Rattle.bitmap.proofs.set_bits.Goals as goal

pub loop-k-init : goal.loop-k-init
loop-k-init c = refl

pub loop-k-preserved : goal.loop-k-preserved
loop-k-preserved c =
    let loop = c.loop-k in
    rw c.set_bit.ensures (bits-turn loop.s c.args.at loop.k c.args.past c.loop-k-test.true ∙ loop.invariant)

pub returns : goal.returns
returns c = sym (bits-done _ _ _ _ c.loop-k-test.false) ∙ c.loop-k.invariant
