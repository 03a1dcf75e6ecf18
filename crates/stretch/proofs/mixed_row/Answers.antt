-- `stretch::mixed_row` meets its contract: the pattern's row gives each pixel what the pattern does, and any row where the pattern is not looked at.
-- Assumes nothing.
use mathlib.Core.Path.{refl, sym, ap, ◌∙◌}
use mathlib.Core.Bool.{false}
use Prim.Native.Nat.{ℕ}
use lib.ListN.{replicate}
use Rattle.surface.specs.Pixels.{across}
use Rattle.surface.proofs.Rects.{in-across}
use Rattle.paint.specs.Paint.{tallied}
use Rattle.paint.proofs.Turns.{paint-same}
use Rattle.ink.specs.Pattern.{pattern_row}
use Rattle.sweep.specs.Row.{row_giving}
use Rattle.scale.specs.Stretch.{pixel_task, stretch_giving}
use Rattle.stretch.proofs.Mixed.{by-pattern, by-none}
use Rattle.stretch.proofs.mixed_row.Goals as goal

pub returns-then-is_patternless : goal.returns-then-is_patternless
returns-then-is_patternless c =
    let b = c.args.b.now in
    let t = b.band.stretch in
    let free = sym c.is_patternless.ensures ∙ c.if-is_patternless.true in
    c.mixed_across.ensures
    ∙ paint-same t.ink.target (λ p now. row_giving (pixel_task t p) b.blank 0 now p) (λ p now. stretch_giving t b.pattern now now p) (across false b.band.x b.band.w c.args.y)
    (λ p i now. by-none t b.pattern now p refl b.masks b.blank b.laid.bits (replicate 8 0) b.laid.unread free) (tallied c.args.mem.now c.args.n)

pub returns : goal.returns
returns c =
    let b = c.args.b.now in
    let t = b.band.stretch in
    let quads = c.quads_of-quads in
    let values = c.row_values-values in
    c.mixed_across-2.ensures
    ∙ paint-same t.ink.target (λ p now. row_giving (pixel_task t p) quads.result 0 now p) (λ p now. stretch_giving t b.pattern now now p) (across false b.band.x b.band.w c.args.y)
    (λ p i now. by-pattern t b.pattern now p (c.pattern_row.ensures.0 ∙ ap (λ (y : ℕ). pattern_row t.ink y) (sym (in-across false b.band.x b.band.w c.args.y p i).2)) b.masks
    quads.result b.laid.bits values.result quads.ensures values.ensures)
    (tallied c.args.mem.now c.args.n)
