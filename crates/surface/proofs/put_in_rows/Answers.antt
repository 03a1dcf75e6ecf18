-- `surface::put_in_rows` meets its contract: in rows a pixel's bytes lie from its first on.
-- Assumes nothing.
use Rattle.surface.proofs.Run.{in-rows, pixel-held, pixel-stored}
use Rattle.surface.proofs.put_in_rows.Goals as goal

pub store_bytes-requires : goal.store_bytes-requires
store_bytes-requires c =
    let p = c.requires in
    pixel-held (in-rows p.1) p.0 _ c.place_in_rows-at.ensures

pub returns : goal.returns
returns c =
    let a = c.args in
    pixel-stored a.s (in-rows c.requires.1) a.x a.y _ c.place_in_rows-at.ensures a.v a.mem.now c.store_bytes.ensures
