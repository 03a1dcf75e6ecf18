-- `surface::get_in_rows` meets its contract: in rows a pixel's bytes lie from its first on.
-- Assumes nothing.
use mathlib.Core.Path.{◌∙◌}
use Rattle.surface.proofs.Run.{in-rows, pixel-held, read-run}
use Rattle.surface.proofs.get_in_rows.Goals as goal

pub get_bytes-requires : goal.get_bytes-requires
get_bytes-requires c =
    let p = c.requires in
    pixel-held (in-rows p.1) p.0 _ c.place_in_rows-at.ensures

pub returns : goal.returns
returns c =
    let a = c.args in
    c.get_bytes.ensures ∙ read-run a.s (in-rows c.requires.1) a.x a.y _ c.place_in_rows-at.ensures a.mem.now
