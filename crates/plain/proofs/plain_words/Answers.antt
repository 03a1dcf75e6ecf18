-- `plain::plain_words` meets its contract: all words of a mono blit row by row, or its words a turn at a time.
-- Assumes nothing.
use native.Mathlib.Omega.{arith}
use mathlib.Core.Path.{refl, ◌∙◌}
use Rattle.paint.specs.Paint.{state}
use Rattle.plain.proofs.Glyphs.{whole-glyph, whole-drawn}
use Rattle.plain.proofs.plain_words.Goals as goal

pub mono_blits-requires : goal.mono_blits-requires
mono_blits-requires c = whole-glyph c.requires.opened (c.is_whole.ensures c.if-is_whole.true)

pub returns-then-is_whole : goal.returns-then-is_whole
returns-then-is_whole c =
    let a = c.args in
    c.mono_blits.ensures
    ∙ whole-drawn c.requires.opened (c.is_whole.ensures c.if-is_whole.true) (omega (arith, c.well_formed)) (omega (arith, c.well_formed)) a.last a.words.now (state a.mem.now 0 0) refl
    (omega (arith, c.ranges.last)) (λ i. omega (arith, c.type_inv.words i))
