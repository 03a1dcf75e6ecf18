-- `blocks::Buffers::unlike_part` meets its contract: both rows are in the buffers, where their pixels are held to each other.
-- Assumes nothing.
use native.Mathlib.Omega.{arith}
use mathlib.Core.Path.{◌∙◌}
use Rattle.blocks.proofs.Others.{part_held, source-held, part-fits, kept-others}
use Rattle.blocks.proofs.Buffers.unlike_part.Goals as goal

pub keep_row-requires : goal.keep_row-requires
keep_row-requires c = let p = c.requires in (omega (arith, part-fits p.0 p.1), part_held p.0)

pub keep_row-requires-2 : goal.keep_row-requires-2
keep_row-requires-2 c = let p = c.requires in (omega (arith, part-fits p.0 p.1), source-held p.0)

pub returns : goal.returns
returns c =
    let p = c.args.p in
    let on = c.requires.0 in
    c.unlike.ensures ∙ kept-others p.to p.from on.format p.y p.sy c.args.mem.now _ _ on.target.some p.x p.sx p.w c.keep_row.ensures c.keep_row-2.ensures
