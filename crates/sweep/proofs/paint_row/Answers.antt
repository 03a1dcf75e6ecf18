-- `sweep::paint_row` meets its contract: the pattern's row gives each pixel what the pattern does, and any row where the pattern is not looked at.
-- Assumes nothing.
use mathlib.Core.Path.{sym, ap, ◌∙◌}
use Prim.Native.Nat.{ℕ}
use lib.ListN.{replicate}
use Rattle.surface.specs.Pixels.{across}
use Rattle.surface.proofs.Rects.{in-across}
use Rattle.paint.specs.Paint.{tallied}
use Rattle.ink.specs.Pattern.{pattern_row}
use Rattle.sweep.specs.Copy.{giving}
use Rattle.sweep.specs.Row.{row_giving}
use Rattle.paint.proofs.Turns.{paint-same}
use Rattle.sweep.proofs.TaskLaws.{by_row, by-no-row}
use Rattle.sweep.proofs.paint_row.Goals as goal

pub returns-then-is_patternless : goal.returns-then-is_patternless
returns-then-is_patternless c =
    let b = c.args.b.now in
    let t = b.task in
    let line = across c.args.back t.x c.args.w c.args.y in
    let free = sym c.is_patternless.ensures ∙ c.if-is_patternless.true in
    c.paint_across.ensures
    ∙ paint-same t.ink.target (λ p now. row_giving t b.blank _ now p) (λ p now. giving t b.pattern now now p) line
    (λ p i now. by-no-row t b.pattern now p (c.pattern_row-row.ensures.0 ∙ ap (λ (y : ℕ). pattern_row t.ink y) (sym (in-across c.args.back t.x c.args.w c.args.y p i).2))
    c.pattern_byte-bits.ensures.0 b.masks b.blank b.laid.bits (replicate 8 0) b.laid.unread free)
    (tallied c.args.mem.now c.args.n)

pub returns : goal.returns
returns c =
    let b = c.args.b.now in
    let t = b.task in
    let quads = c.quads_of-quads in
    let values = c.row_values in
    let line = across c.args.back t.x c.args.w c.args.y in
    c.paint_across-2.ensures
    ∙ paint-same t.ink.target (λ p now. row_giving t quads.result _ now p) (λ p now. giving t b.pattern now now p) line
    (λ p i now. by_row t b.pattern now p (c.pattern_row-row.ensures.0 ∙ ap (λ (y : ℕ). pattern_row t.ink y) (sym (in-across c.args.back t.x c.args.w c.args.y p i).2))
    c.pattern_byte-bits.ensures.0 b.masks quads.result b.laid.bits values.result values.ensures quads.ensures)
    (tallied c.args.mem.now c.args.n)
