-- `rect::fill_rect` meets its contract: on tiles; in rows a solid fill gives each pixel one value, one without a target key goes by masks, and no fill looks at a source.
-- Assumes nothing.
use mathlib.Core.Path.{sym, ◌∙◌}
use mathlib.Core.Bool.{true≢false}
use Rattle.paint.proofs.MixLaws.{not-true}
use Rattle.rect.proofs.Solid.{rect-on, solid-made, fill-made}
use Rattle.rect.proofs.fill_rect.Goals as goal

pub solid_rows-requires : goal.solid_rows-requires
solid_rows-requires c = (c.if-t.false, rect-on c.requires.0)

pub returns-then-is_solid : goal.returns-then-is_solid
returns-then-is_solid c =
    let a = c.args in
    solid-made a.t a.pattern a.mem.now a.w a.h (sym c.is_solid.ensures ∙ c.if-is_solid.true) c.raster-v.ensures c.solid_rows.ensures

pub wash_rows-requires : goal.wash_rows-requires
wash_rows-requires c =
    (rect-on c.requires.0, (λ e. absurd (true≢false (sym e ∙ c.if-t.false)), not-true _ c.if-not-t.true))

pub returns-then-not-t : goal.returns-then-not-t
returns-then-not-t c =
    let a = c.args in
    fill-made a.t a.pattern a.mem.now a.w a.h c.requires.1 c.wash_rows.ensures
