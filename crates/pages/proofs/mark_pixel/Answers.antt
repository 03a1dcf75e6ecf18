-- `pages::mark_pixel` meets its contract: the bytes left, marked now, are those of the pixel, marked at the start.
-- Assumes nothing.
use mathlib.Core.Path.{sym, ◌∙◌}
use native.Mathlib.Omega.{arith}
use Rattle.pages.proofs.PixelLaws.{pixel-start, pixel-turn, pixel-none, pixel-page}
use Rattle.pages.proofs.mark_pixel.Goals as goal

pub loop-k-init : goal.loop-k-init
loop-k-init c = pixel-start c.args.s c.args.x c.args.y c.args.marks.now c.requires.on.colour.some

pub byte_of-at-requires : goal.byte_of-at-requires
byte_of-at-requires c = (c.requires.on.colour, omega (arith, c.requires.on.colour.some))

pub bounds-marks-at : goal.bounds-marks-at
bounds-marks-at c = pixel-page c.requires c.loop-k.k (omega (arith, c.requires.on.colour.some)) c.byte_of-at.ensures

pub loop-k-preserved : goal.loop-k-preserved
loop-k-preserved c =
    let a = c.args in
    pixel-turn a.s a.x a.y _ c.loop-k.k a.s.bytes (omega (arith, c.requires.on.colour.some)) c.byte_of-at.ensures ∙ c.loop-k.invariant

pub returns : goal.returns
returns c =
    let a = c.args in sym (pixel-none a.s a.x a.y _ c.loop-k.k a.s.bytes (omega arith)) ∙ c.loop-k.invariant
