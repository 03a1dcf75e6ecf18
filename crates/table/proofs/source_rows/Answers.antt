-- `table::source_rows`: past row 7 both rectangles are on their surfaces.
-- Assumes nothing.
use mathlib.Core.Path.{sym, ◌∙◌}
use Rattle.table.proofs.Verdicts.{neither, in-rows}
use Rattle.table.proofs.source_rows.Goals as goal

pub spans_clash-requires : goal.spans_clash-requires
spans_clash-requires c =
    let a = c.args in
    let p = c.requires in
    let on = neither c.rect_in.result c.needed_on.result c.if-rect_in-needed_on.false in
    in-rows a.t a.s a.len a.c a.b p.0 p.1 p.2 (sym c.rect_in.ensures ∙ on.0) (sym c.needed_on.ensures ∙ on.1)
