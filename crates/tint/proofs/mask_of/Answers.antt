-- `tint::mask_of` meets its contract: by the test for a pixel that is left.
-- Assumes nothing.
use mathlib.Core.Path.{refl}
use Rattle.tint.proofs.FillLaws.{mask-made}
use Rattle.tint.proofs.mask_of.Goals as goal

pub returns-then-ink-bit : goal.returns-then-ink-bit
returns-then-ink-bit c =
    let a = c.args in
    mask-made a.ink a.value a.bit c.if-ink-bit.true refl refl

pub returns : goal.returns
returns c =
    let a = c.args in
    mask-made a.ink a.value a.bit c.if-ink-bit.false c.raster.ensures c.raster-flip.ensures
