-- `plain::Row::draw` meets its contract: the part's bytes finish a stretch of the row.
-- Assumes nothing.
use mathlib.Core.Path.{sym}
use borrow.Author.Tests.{ne_eqb}
use Rattle.plain.proofs.Stretch.{part_bytes, part-within}
use Rattle.plain.proofs.Row.draw.Goals as goal

pub draw_mono-requires : goal.draw_mono-requires
draw_mono-requires c =
    let a = c.args in
    (c.requires.0, (part-within a.self.blit.feed a.self.t a.self.j a.self.column a.m _ _ c.requires.1.0 c.requires.1.1 c.whole_pixels-start.ensures c.whole_pixels-end.ensures, c.if-self-eq0.true))

pub returns-then-self-eq0 : goal.returns-then-self-eq0
returns-then-self-eq0 c =
    let a = c.args in
    rw (← part_bytes a.self.blit.feed a.self.last a.self.word a.self.t a.self.j a.self.column a.m _ _ c.requires.1.0 c.whole_pixels-start.ensures c.whole_pixels-end.ensures)
    c.draw_mono.ensures

pub draw_each-requires : goal.draw_each-requires
draw_each-requires c =
    let a = c.args in
    (c.requires.0, (part-within a.self.blit.feed a.self.t a.self.j a.self.column a.m _ _ c.requires.1.0 c.requires.1.1 c.whole_pixels-start.ensures c.whole_pixels-end.ensures, sym (ne_eqb _ _ c.if-self-eq0.false)))

pub returns : goal.returns
returns c =
    let a = c.args in
    rw (← part_bytes a.self.blit.feed a.self.last a.self.word a.self.t a.self.j a.self.column a.m _ _ c.requires.1.0 c.whole_pixels-start.ensures c.whole_pixels-end.ensures)
    c.draw_each.ensures
